-- Card S and the marked cases; nesting; the three demands; the number put on a record; one bad byte.
pub mod Marked
pub mod Unmet
pub mod Demands
pub mod Renumbering
pub mod OneByte
pub mod Wrong
