-- A law of what is left at the end.
pub mod Past
