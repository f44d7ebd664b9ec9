pub mod NestedSheet
pub mod FrontToBack
pub mod Reading
pub mod NestedRuns
