-- The text of a reading.
pub mod Listing
pub mod Rooms
