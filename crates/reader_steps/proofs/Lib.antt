-- The laws of the definitions.
pub mod Copies
pub mod Tables
pub mod Values
