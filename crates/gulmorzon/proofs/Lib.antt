-- Laws that the functions' proofs share.
pub mod Lent
pub mod Promised
pub mod Gauges
