pub mod ResponseLaws
pub mod Answers
pub mod Charges
