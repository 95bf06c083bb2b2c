-- The characters of a rule as bits.
pub mod Characters
