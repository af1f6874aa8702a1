-- The contracts of inner functions, what each answers and leaves in memory, and the premises of laws. No public contract cites them.
pub mod Fields
pub mod FirstLine
pub mod SheetReader
pub mod HeldTable
pub mod Order
pub mod TableNumbers
pub mod TableReader
pub mod Writing
pub mod Update
pub mod Premises
