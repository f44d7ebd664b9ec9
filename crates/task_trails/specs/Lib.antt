pub mod TaskTrails
