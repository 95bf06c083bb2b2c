-- What a lent table says.
pub mod Lending
