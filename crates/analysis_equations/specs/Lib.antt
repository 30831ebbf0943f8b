pub mod Sharing
pub mod HoldTimes
pub mod Blocking
pub mod Requirement
pub mod Questions
pub mod Bounds
