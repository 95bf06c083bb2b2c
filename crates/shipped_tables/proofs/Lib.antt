-- The law of a shipped table.
pub mod Owns
