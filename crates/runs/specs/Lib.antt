pub mod Running
pub mod Parts
pub mod Props
