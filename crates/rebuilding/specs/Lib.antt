-- The second card rebuilt from the first and the list.
pub mod Rebuilding
