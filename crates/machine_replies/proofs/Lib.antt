pub mod Ground
pub mod Loaded
pub mod Asked
pub mod Refused
pub mod Freed
pub mod Quit
pub mod Beaten
