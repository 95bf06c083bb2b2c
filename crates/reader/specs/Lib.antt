-- What a table of places makes of an image.
pub mod Records
