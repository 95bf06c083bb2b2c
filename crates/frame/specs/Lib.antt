-- What stands around the objects of a card.
pub mod Checks
