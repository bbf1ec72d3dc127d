-- A column exchanged in both listings.
pub mod Store
