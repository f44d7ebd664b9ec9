pub mod EndLaws
pub mod NumberLaws
pub mod TableLaws
