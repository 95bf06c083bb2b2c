-- The theorems: the marked cases; what the reader accepts; nested editions; what the writer writes; the numbers and places of the refusals; one bad byte; what is shut out, and what goes unseen.
pub mod Worked
pub mod ReadSound
pub mod ReadComplete
pub mod Accepts
pub mod AnyAccepted
pub mod NestedLaws
pub mod Writes
pub mod ReadingSays
pub mod WritingSays
pub mod Library
pub mod OneByte
pub mod Wrong
pub mod Renumbering
pub mod Unseen
