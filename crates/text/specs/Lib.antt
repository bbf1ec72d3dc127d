-- Text and bytes: plain decimals, numbers after single spaces, things one after another, bytes put at a place, and printed behind one another.
pub mod Series
pub mod Text
pub mod Heard
pub mod Spelling
pub mod Puts
pub mod Prints
