pub mod Machine
pub mod Waiting
pub mod Longest
