pub mod Sum
pub mod References
pub mod Cache
pub mod Firsts
pub mod SoFar
pub mod Sets
pub mod Shape
