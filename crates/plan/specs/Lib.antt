pub mod Acceptance
pub mod Reading
