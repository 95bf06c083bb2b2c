-- The laws of the definitions.
pub mod Words
pub mod Lines
pub mod Shown
