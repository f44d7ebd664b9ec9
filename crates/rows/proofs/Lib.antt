pub mod Overlay
pub mod Overlays
pub mod Parts
pub mod Answers
pub mod Chunks
