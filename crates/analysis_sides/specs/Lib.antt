pub mod Sides
pub mod Inner
