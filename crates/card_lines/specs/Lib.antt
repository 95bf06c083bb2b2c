-- A text is lines, and a line is blank, a remark, or a name or tag, a colon and a value.
pub mod Lines
pub mod Keys
