-- New weights on a loaded table (document 02, Req 03 to 05): what a reader must believe.
pub mod Update
pub mod Promise
pub mod Sheets
pub mod Cases
