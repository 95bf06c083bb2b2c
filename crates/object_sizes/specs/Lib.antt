-- How long objects are together.
pub mod Sizes
