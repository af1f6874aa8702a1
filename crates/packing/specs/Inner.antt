-- The contracts of inner functions, and what laws ask: premises, the lists as the program stores them, the packing read off them, and the tournament
-- that finds the greatest saving.
pub mod Premises
pub mod Lists
pub mod Stored
pub mod Tournament
