-- A column exchanged in both listings.
pub mod Pieces
pub mod Without
pub mod Moving
pub mod Takings
pub mod Fillings
pub mod Exchanges
pub mod Crossing
pub mod Joins
pub mod Spreads
pub mod LettingIn
pub mod RowExchanges
pub mod Determined
