-- That the table is right, and that stand-ins for a desk fail on it.
pub mod Replies
pub mod Proved
pub mod StandIns
pub mod Called
pub mod DeskStandIns
