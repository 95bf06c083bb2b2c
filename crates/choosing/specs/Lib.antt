-- The definitions that the contracts of `choosing` cite.
pub mod Choices
