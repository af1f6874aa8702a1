-- The answers that a C caller gets: what a reader must believe.
pub mod Answers
pub mod Gauges
pub mod Update
pub mod Inner
