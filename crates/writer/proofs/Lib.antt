-- The laws of the writer.
pub mod Fillers
pub mod Heading
pub mod Grown
pub mod Templates
pub mod Accepted
