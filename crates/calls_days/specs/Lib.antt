-- The calls as definitions.
pub mod Days
