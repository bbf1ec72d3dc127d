-- The lines of the tryout in their turn: what each does to a run.
pub mod Turns
pub mod Steps
