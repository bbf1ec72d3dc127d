-- A column replaced: the checks, the judgment, the change.
pub mod Arranging
pub mod Calls
pub mod Spikes
pub mod Changes
pub mod Determined
pub mod Runs
pub mod Outcomes
