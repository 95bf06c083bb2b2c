-- What a table of places tells of an image.
pub mod Parts
pub mod Telling
