-- What the reader answers.
pub mod Steps
