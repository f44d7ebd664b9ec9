pub mod Times
pub mod BoundsLaws
pub mod MicrosecondsVerdicts
pub mod Neighbours
