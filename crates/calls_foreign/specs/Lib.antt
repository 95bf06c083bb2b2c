-- The calls as definitions.
pub mod Foreign
