pub mod Ground
pub mod Precedences
pub mod Over
pub mod Terms
pub mod Raising
