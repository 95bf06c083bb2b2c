-- The letters of DIN 66003, and UTF-8.
pub mod Letters
pub mod Turning
pub mod Inverse
