pub mod Graph
pub mod Memory
pub mod Gathered
