pub mod Terms
pub mod Inner
