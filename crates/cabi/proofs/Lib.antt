-- That each function for C has one reply, that an answer can be read back from its number, and the proofs of the functions.
pub mod Parts
pub mod Reading
pub mod ReadingSheets
pub mod Determined
