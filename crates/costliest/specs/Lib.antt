pub mod Costliest
pub mod Parts
