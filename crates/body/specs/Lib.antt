pub mod Layout
pub mod Decode
pub mod Walk
pub mod Jumps
pub mod Turned
pub mod Parts
pub mod BlockEnd
