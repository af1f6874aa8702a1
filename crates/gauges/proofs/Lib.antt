-- Laws about exact binary64 numbers, and about what the two calls answer.
pub mod Fractions
pub mod Operations
pub mod Answers
pub mod Cases
