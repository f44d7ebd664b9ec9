pub mod Graphs
pub mod TaskRows
