-- The second half of the fixed bytes.
pub mod Late
