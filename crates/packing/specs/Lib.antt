-- What document 01 says of the packing of services into one table. These files are what a reader must believe; `Inner` has the contracts of inner functions.
pub mod Grants
pub mod Count
pub mod Table
pub mod Demand
pub mod Cases
pub mod Answer
pub mod Inner
