-- The lines of the tryout in their turn: what each does to a run.
pub mod Makings
pub mod PutSteps
pub mod ColCounts
pub mod Opening
pub mod ColSteps
pub mod OneLine
pub mod Determined
