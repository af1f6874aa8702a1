-- The contracts of inner functions.
pub mod Absence
