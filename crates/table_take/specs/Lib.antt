-- A table from its text.
pub mod Splitting
pub mod Numbers
pub mod LengthSets
pub mod Words
pub mod Taking
pub mod Backs
