-- What a card is.
pub mod Content
pub mod Refusals
pub mod Fields
pub mod Layout
pub mod Rules
pub mod Sums
pub mod Frame
pub mod Walk
pub mod Reading
pub mod Places
pub mod Refusing
pub mod Writing
