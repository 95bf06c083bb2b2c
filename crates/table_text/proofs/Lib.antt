-- Laws of the words, of the lengths as text, and of the lines.
pub mod WordParts
pub mod LengthLaws
pub mod RowLaws
