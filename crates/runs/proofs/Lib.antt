pub mod PartLaws
pub mod PartTurns
pub mod Segments
pub mod PathCounts
pub mod CacheLaws
pub mod RunLaws
pub mod BothLaws
pub mod BothEvents
