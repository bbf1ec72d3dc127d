-- One listing in lent lists, of columns or of rows: its parts, its form, and the listing turned.
pub mod Answers
pub mod Spans
pub mod Between
pub mod Rises
pub mod Listings
pub mod Falling
pub mod Walks
pub mod Stores
pub mod Holding
pub mod Readback
pub mod Puts
pub mod Storing
pub mod Turns
pub mod Loans
pub mod Determined
