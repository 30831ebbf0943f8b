pub mod Layout
pub mod Image
pub mod Sound
pub mod Inner
