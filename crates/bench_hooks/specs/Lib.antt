pub mod Asking
pub mod Calling
pub mod Reading
pub mod Sheets
