pub mod Parsing
pub mod CompletePaths
pub mod SheetRuns
pub mod Places
pub mod RuleLaws
pub mod StepLaws
