pub mod Sets
pub mod Lanes
