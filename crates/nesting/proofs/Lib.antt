-- The decision is nesting.
pub mod Lengths
pub mod Sound
pub mod Samples
pub mod Decided
pub mod Steps
