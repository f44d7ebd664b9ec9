pub mod Sheet
pub mod Parsed
