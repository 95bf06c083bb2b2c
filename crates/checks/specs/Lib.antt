-- What is refused of a lent record.
pub mod Lending
