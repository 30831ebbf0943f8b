pub mod Encode
pub mod Inner
