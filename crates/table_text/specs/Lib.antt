-- The text of a table.
pub mod Vocabulary
pub mod Texts
