pub mod Insertion
pub mod Sorted
