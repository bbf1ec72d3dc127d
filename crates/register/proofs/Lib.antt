-- A register of one square sparse pattern, kept in six lists that the caller lends.
pub mod Refusals
pub mod Passing
pub mod Agreement
pub mod Orders
pub mod Tops
pub mod Holdings
pub mod Soundness
pub mod Starting
pub mod Determined
pub mod Deciding
pub mod Decided
pub mod StandIns
