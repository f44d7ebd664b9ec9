pub mod NestedReplay
pub mod NestedVerdict
pub mod Passes
