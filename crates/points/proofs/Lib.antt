pub mod DoneRows
pub mod Rests
pub mod Before
