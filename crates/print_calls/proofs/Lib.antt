pub mod Ground
pub mod Naming
pub mod Calls
pub mod Batches
pub mod Rules
