pub mod Microseconds
