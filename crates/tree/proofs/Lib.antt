-- Laws of heads, listings and rooms; then the theorems: Complete, Sound, Order, Lowest, and the marked cases.
pub mod Behind
pub mod Inside
pub mod Listings
pub mod Words
pub mod Sizes
pub mod Steps
pub mod Whole
pub mod HeadsRead
pub mod Complete
pub mod Written
pub mod Sound
pub mod Cases
pub mod Order
pub mod Lowest
