-- The laws of the sizes.
mod Renumbers
