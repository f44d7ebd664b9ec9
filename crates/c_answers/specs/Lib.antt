pub mod Told
pub mod Filling
pub mod Reading
pub mod Writing
pub mod Replaying
pub mod Nested
pub mod Timing
pub mod Place
