-- The tryout's reply lines.
pub mod Replies
pub mod Shown
