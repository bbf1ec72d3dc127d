-- The judgment on a column and its new rows, which changes no list of the register.
pub mod Asked
pub mod Counting
pub mod Numbered
pub mod Bools
pub mod Marking
pub mod Sweeping
pub mod PeelCounts
pub mod NewRows
pub mod SpikedParts
pub mod Peels
pub mod Windows
pub mod Striking
pub mod Judging
pub mod Determined
