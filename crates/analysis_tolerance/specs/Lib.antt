pub mod Inner
pub mod Periods
