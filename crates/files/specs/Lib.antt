-- The words that programs take.
pub mod Words
