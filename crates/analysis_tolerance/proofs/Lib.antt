pub mod Ground
pub mod Precedences
pub mod Periods
pub mod Demand
