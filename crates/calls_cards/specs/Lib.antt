-- The calls as definitions.
pub mod Calls
pub mod PlaceCalls
