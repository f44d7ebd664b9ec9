pub mod Area
pub mod Kinds
pub mod RowPart
