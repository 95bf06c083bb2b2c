-- No second answer.
pub mod Determined
pub mod Places
pub mod Frames
pub mod Fresher
pub mod Differences
pub mod Front
pub mod Trees
pub mod Plans
pub mod Days
pub mod Nestings
pub mod TableTexts
pub mod Letters
pub mod CardTexts
