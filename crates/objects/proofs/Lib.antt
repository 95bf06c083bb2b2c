-- The laws of the definitions.
pub mod Finds
pub mod Steps
