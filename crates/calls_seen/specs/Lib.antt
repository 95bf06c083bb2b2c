-- The calls as definitions.
pub mod HostCalls
pub mod Printing
