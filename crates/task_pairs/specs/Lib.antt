pub mod TaskPairs
