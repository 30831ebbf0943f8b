pub mod Ground
pub mod Others
pub mod Holding
pub mod Tables
