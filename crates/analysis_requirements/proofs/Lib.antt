pub mod Ground
pub mod Precedences
pub mod Blocking
pub mod Together
pub mod Printed
