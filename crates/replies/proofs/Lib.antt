-- The tryout's reply lines.
pub mod EtaTexts
pub mod Lengths
pub mod Showing
pub mod Determined
