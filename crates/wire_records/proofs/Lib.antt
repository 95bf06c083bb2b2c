-- Laws that the proofs share, and that what is written comes back.
pub mod Sizes
pub mod RecordsBack
pub mod Parts
