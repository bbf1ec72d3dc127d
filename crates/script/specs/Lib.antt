-- The tryout: its text, its lines and their turns, its replies, and the whole of it from bytes read to bytes written.
pub mod Tryout
pub mod Feed
