-- Laws of single letters, of the two turnings, and that each undoes the other.
pub mod Single
pub mod Spelt
pub mod Coded
pub mod Inverse
