pub mod Ground
pub mod Same
pub mod Values
pub mod RoundTrip
pub mod Outcome
