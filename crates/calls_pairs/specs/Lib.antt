-- The calls as definitions.
pub mod Comparing
pub mod Fresher
