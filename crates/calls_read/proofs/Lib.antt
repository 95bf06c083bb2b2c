-- The laws of a record put from places.
mod Fills
