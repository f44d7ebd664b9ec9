pub mod BlockRows
pub mod Parts
