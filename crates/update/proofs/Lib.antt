-- Laws of the update.
pub mod UpdateForm
pub mod Promises
pub mod BothSheets
pub mod MadeRules
pub mod ReadPasses
pub mod AsItsLines
pub mod Cases
