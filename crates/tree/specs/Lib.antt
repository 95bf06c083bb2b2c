-- The objects of a foreign card: what stands at a tag, the listing, the room; a forest of objects, what can be wrong, and what is said of a listing.
pub mod Heads
pub mod Listing
pub mod Answers
pub mod Forest
pub mod Faults
pub mod Trees
