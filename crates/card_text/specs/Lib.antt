-- A card as text: which line speaks of what, what is wrong with a text, and the record that it makes.
pub mod Entries
pub mod Hex
pub mod Faults
pub mod Records
pub mod Values
