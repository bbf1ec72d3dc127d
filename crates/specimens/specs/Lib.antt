pub mod Reply
pub mod Table
pub mod Calls
