-- The contracts of inner functions.
pub mod Gauge
pub mod Numeral
pub mod Stages
pub mod Update
