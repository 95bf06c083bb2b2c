-- The laws of the definitions, and the theorems on them.
pub mod Named
pub mod Picked
pub mod Mended
pub mod Rebuilt
pub mod Second
