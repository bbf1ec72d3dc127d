-- A register of one square sparse pattern, kept in six lists that the caller lends.
pub mod Takes
pub mod Lent
pub mod Loan
pub mod Reply
pub mod Checks
pub mod Marks
pub mod Order
pub mod Start
