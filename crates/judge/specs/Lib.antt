-- The judgment on a column and its new rows, which changes no list of the register.
pub mod Call
pub mod Sets
pub mod Peel
pub mod Spiked
pub mod Reach
pub mod Judge
