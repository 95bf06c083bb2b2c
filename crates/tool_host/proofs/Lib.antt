-- A law that the proof of the line needs.
pub mod Behind
