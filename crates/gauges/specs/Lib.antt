-- Gauges for the load screen (document 02, Req 01): what a reader must believe.
pub mod Binary64
pub mod Gauges
pub mod Inner
