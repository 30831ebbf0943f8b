pub mod Ground
pub mod Made
pub mod Kept
pub mod Bytes
pub mod ByValue
