-- What goes over a wire: places and refusals as bytes.
pub mod PlaceBytes
pub mod Answers
