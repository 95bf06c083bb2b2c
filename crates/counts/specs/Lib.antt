-- Facts that can be counted.
pub mod Counts
