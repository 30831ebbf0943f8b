pub mod Figures
pub mod Inner
