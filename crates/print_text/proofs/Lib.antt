pub mod Ground
pub mod TextLaws
pub mod Turns
pub mod Lines
