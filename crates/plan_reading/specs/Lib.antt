pub mod Checks
pub mod Plan
pub mod Inner
