-- Laws of the lines of a text, of lists that a loop stores, and that each byte of text has a letter.
pub mod Filling
pub mod Told
pub mod Passing
pub mod Listed
pub mod Shown
