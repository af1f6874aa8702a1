-- A change in stages (document 02, Req 06): what a reader must believe.
pub mod Stages
pub mod Lines
pub mod Calls
pub mod Promise
pub mod Cases
pub mod Inner
