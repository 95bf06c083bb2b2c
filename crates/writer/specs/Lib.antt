-- What the writer answers, and what it leaves in the buffer.
pub mod Storing
