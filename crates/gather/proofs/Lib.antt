pub mod NextBlock
pub mod Append
pub mod Handing
pub mod Distinct
pub mod Gathering
