-- Two cards side by side.
pub mod Differences
pub mod Exact
pub mod Answers
pub mod Steps
