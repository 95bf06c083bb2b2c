-- One edition nested in another; the decision of it; what an answer says.
pub mod Nested
pub mod Decision
pub mod Answers
