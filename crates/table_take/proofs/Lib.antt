-- Laws of what a text is split into, and of what is taken of it; and that a table comes back from its text (`Back`).
pub mod Splits
pub mod Ranges
pub mod Turns
pub mod Signs
pub mod Decimals
pub mod Spelled
pub mod SetsBack
pub mod RowsBack
pub mod Back
