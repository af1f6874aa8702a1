-- What the theorems ask of a frame, and the contracts of inner functions: what the program keeps while it makes a list, and how that stands to the definitions.
pub mod Sound
pub mod Ledger
pub mod Terms
pub mod Holders
pub mod Lists
pub mod Run
pub mod Service
pub mod OldList
pub mod Known
pub mod Laying
pub mod Hopeless
pub mod Resume
