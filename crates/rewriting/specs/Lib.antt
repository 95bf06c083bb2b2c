-- Rewriting a card with a pulled plug.
pub mod Plans
pub mod Checking
