-- What document 01 says of numbers, percentages, suffixes, fields and lines, its limits and its refusals: what a reader must believe. The contracts
-- of inner functions stand in `Inner`.
pub mod Pick
pub mod Limits
pub mod Sums
pub mod Refusals
pub mod Buffer
pub mod Digits
pub mod Decimal
pub mod Text
pub mod Percentage
pub mod Suffix
pub mod Inner
