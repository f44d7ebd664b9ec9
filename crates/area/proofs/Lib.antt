pub mod RowLaws
pub mod Blocks
pub mod Areas
