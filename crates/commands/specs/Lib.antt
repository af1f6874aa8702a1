-- What each command prints, from the bytes of its files and of its other words: what a reader must believe. The contracts of inner functions stand in `Inner`.
pub mod Said
pub mod Refused
pub mod Numeral
pub mod Address
pub mod Dyadic
pub mod Split
pub mod Lookup
pub mod Churn
pub mod Update
pub mod Stages
pub mod Gauge
pub mod Help
pub mod Inner
