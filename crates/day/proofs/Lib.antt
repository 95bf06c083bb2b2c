-- The laws of the definitions.
pub mod Padded
pub mod Searches
pub mod Entries
pub mod Turns
pub mod Frames
pub mod Opens
pub mod Adds
pub mod Builds
pub mod Sizes
pub mod Positions
pub mod Members
pub mod Only
pub mod Numbers
pub mod Lookups
pub mod Finding
pub mod Theorems
