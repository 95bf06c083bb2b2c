-- What the contracts rest on, and that the card shows it.
pub mod Listed
pub mod Spelled
pub mod Grouped
pub mod Chosen
pub mod Lacking
pub mod Runs
pub mod Widest
pub mod Shown
pub mod Totals
pub mod Wills
pub mod Told
pub mod Refused
pub mod Complete
pub mod Worked
