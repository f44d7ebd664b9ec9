pub mod Bounds
pub mod Meeting
pub mod UsefulSets
