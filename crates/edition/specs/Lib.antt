-- The definitions that the contracts of `edition` cite.
pub mod Sets
pub mod Rows
pub mod Tables
