-- Laws of objects put together; then the theorems: WritesBack and Only, and the round trips.
pub mod Putting
pub mod Sofar
pub mod WritesBack
pub mod Only
pub mod Ends
pub mod RoundTrips
