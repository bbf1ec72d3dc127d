-- What patterns, orders, choices, reach, peels and verdicts are. Nothing is proved here; the theorems stand in proofs/.
pub mod Places
pub mod Series
pub mod Rising
pub mod Pattern
pub mod Flat
pub mod Turned
pub mod Order
pub mod Choice
pub mod Reach
pub mod Peel
pub mod Dictionary
pub mod Verdict
pub mod Ladder
