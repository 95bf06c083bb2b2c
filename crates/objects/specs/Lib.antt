-- The objects of a template.
pub mod Objects
