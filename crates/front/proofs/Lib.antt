-- The laws of the definitions.
pub mod Values
pub mod Spaced
pub mod Signs
pub mod Sizes
pub mod Placed
pub mod Marks
pub mod Taken
pub mod Long
pub mod NameLines
pub mod Gates
pub mod Invisible
pub mod Printable
pub mod Worked
