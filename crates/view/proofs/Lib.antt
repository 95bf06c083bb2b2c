-- What a view of an accepted image shows.
pub mod Shown
