pub mod Ground
pub mod Rows
pub mod Ranks
pub mod Walks
pub mod Longest
pub mod Tops
