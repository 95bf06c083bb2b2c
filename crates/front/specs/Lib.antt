-- The printed front of a card: its lines, what is refused, what is promised of it, two fronts worked through.
pub mod Lines
pub mod Refusing
pub mod Placing
pub mod Promises
pub mod Worked
