-- The contracts of inner functions.
pub mod Spread
pub mod Nodes
pub mod Row
pub mod Both
pub mod Handed
pub mod Changes
