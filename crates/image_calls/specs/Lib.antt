pub mod Replies
pub mod Promise
pub mod Inner
