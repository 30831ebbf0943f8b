pub mod Calls
pub mod Output
pub mod Buffers
pub mod Inner
