pub mod Ground
pub mod Answered
pub mod Replied
pub mod Bytes
pub mod Kept
