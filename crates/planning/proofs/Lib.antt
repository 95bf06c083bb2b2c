-- The laws of the definitions, and the theorems on them.
pub mod Changes
pub mod Own
pub mod Passing
