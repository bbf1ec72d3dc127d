-- What the functions for C reply, in the words of `register`.
pub mod Code
pub mod Replace
pub mod Sheets
