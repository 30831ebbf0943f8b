pub mod Ground
pub mod Fields
pub mod Examples
