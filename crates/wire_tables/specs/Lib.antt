-- An edition as a table of 103 bytes, and back.
pub mod Tables
