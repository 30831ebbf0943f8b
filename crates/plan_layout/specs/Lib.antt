pub mod Editions
pub mod Layout
pub mod Inner
