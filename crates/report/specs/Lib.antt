-- What is amiss with an edition.
pub mod Clauses
