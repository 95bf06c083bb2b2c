-- The laws of the definitions, and the theorems on them.
pub mod Single
pub mod Sides
pub mod Words
pub mod Filled
pub mod Others
pub mod Placed
pub mod Told
pub mod Exactness
pub mod Images
