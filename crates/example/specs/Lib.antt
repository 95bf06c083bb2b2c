-- A card that shows that one edition is not nested in another.
pub mod Cards
pub mod Shows
