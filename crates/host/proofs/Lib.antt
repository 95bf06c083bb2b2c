-- The laws of the definitions, and that the answer's bytes are those of the content's template.
pub mod Opens
pub mod Replies
