-- What the test program finds in a record's text.
pub mod Parts
pub mod Numbers
pub mod Header
