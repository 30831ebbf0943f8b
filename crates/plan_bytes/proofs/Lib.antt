pub mod Ground
pub mod Put
