pub mod TaskTrailLaws
