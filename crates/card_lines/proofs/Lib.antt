-- Laws of lines, of their parts, and of lists of names.
pub mod Splits
pub mod Cuts
pub mod Listings
