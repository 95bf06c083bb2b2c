-- A law that the proofs of `wire` share.
pub mod Pairs
