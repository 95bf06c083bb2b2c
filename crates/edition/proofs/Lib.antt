-- The laws of the definitions.
pub mod Sets
pub mod Rows
pub mod Shipped
