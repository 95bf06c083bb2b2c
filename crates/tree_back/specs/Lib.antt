-- Writing back a listing: what it answers; and, for the code alone, the bytes as they are put together and listed again.
pub mod Sources
pub mod Glue
