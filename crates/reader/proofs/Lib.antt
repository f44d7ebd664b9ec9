pub mod TaskLaws
pub mod ReadLaws
pub mod TaskBodies
