-- The laws of parts, and that record and table tell the same.
pub mod Cuts
pub mod Tells
