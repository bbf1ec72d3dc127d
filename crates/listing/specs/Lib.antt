-- One listing in lent lists, of columns or of rows: its parts, its form, and the listing turned.
pub mod Limits
pub mod Says
pub mod Listing
pub mod Falls
pub mod Held
pub mod Look
pub mod Walk
pub mod Contract
pub mod Formed
pub mod Loan
