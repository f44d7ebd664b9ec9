pub mod TrailLaws
pub mod NoteLaws
pub mod WriteLaws
