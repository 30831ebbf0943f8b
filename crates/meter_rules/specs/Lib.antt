pub mod Waited
pub mod Metered
