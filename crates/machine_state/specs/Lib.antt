pub mod Shows
pub mod Sound
pub mod Rows
pub mod Inner
