-- What a day file is, and what each call over one answers.
pub mod Cards
pub mod Index
pub mod Files
pub mod Calls
pub mod Promises
