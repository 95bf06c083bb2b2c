-- The calls as definitions.
pub mod Pulling
