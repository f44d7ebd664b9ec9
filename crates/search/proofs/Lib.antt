pub mod Raising
pub mod DoneRows
pub mod BlockLaws
pub mod FoundNumbers
