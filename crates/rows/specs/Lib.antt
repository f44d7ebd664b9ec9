pub mod Overlay
pub mod Rows
pub mod Append
