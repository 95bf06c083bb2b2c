-- The laws of the definitions.
pub mod Items
pub mod Sums
pub mod Lent
