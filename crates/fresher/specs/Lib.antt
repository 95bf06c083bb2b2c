-- The fresher of two cards.
pub mod Comparing
pub mod Bytes
