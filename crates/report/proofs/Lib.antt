-- The report tells what `formed` tells, and the clause.
pub mod Steps
pub mod Reported
