-- The host's command and its answer.
pub mod Hosting
pub mod Steps
