pub mod TaskMaps
