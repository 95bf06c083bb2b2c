-- The laws of the definitions.
pub mod Heads
pub mod Tails
pub mod Extents
