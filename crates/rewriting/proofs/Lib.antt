-- The laws of the definitions, and the theorems on them.
pub mod Refused
pub mod Steps
pub mod Decided
pub mod Pulled
