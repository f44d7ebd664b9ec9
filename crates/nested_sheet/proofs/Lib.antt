pub mod HeadLaws
pub mod EndLaws
pub mod Numbers
pub mod RunByRun
pub mod Faults
pub mod Kept
pub mod SheetNests
