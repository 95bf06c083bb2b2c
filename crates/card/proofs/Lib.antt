-- The laws of the definitions.
pub mod Xor
pub mod Forms
pub mod Groups
pub mod Records
pub mod Layouts
pub mod Octets
pub mod Room
pub mod Chains
pub mod Walks
pub mod Unrefused
pub mod Seventeen
pub mod FieldsRead
pub mod LastRow
pub mod Readings
pub mod Starts
