-- The laws of the definitions.
pub mod Orders
pub mod Inserts
pub mod Parts
pub mod Moves
