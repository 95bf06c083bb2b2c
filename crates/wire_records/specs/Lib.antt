-- A record as 479 bytes, and back.
pub mod Records
