pub mod Counts
pub mod Waited
pub mod Metered
