-- The call as definitions.
pub mod Nestings
