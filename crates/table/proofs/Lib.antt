pub mod Answers
pub mod TableVerdicts
pub mod Entries
