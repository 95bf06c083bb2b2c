-- The laws of the definitions.
pub mod Faults
pub mod Order
