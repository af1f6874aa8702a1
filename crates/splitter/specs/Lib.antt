-- What the functions that read a text promise.
pub mod Input
