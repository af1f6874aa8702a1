-- Laws of the packing.
pub mod GrantSteps
pub mod EqualGrants
pub mod Best
pub mod Tables
pub mod Scaled
pub mod Convexity
pub mod Demand
pub mod Checks
pub mod Listing
pub mod Cases
pub mod Stores
pub mod Payable
pub mod Winner
pub mod Granting
pub mod StoredCosts
pub mod Written
pub mod PackAnswer
