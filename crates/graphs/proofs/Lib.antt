pub mod Listed
pub mod Prepared
pub mod Turning
pub mod Gathered
pub mod TooMany
pub mod Halves
