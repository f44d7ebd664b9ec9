pub mod ReplacedSets
pub mod Kept
pub mod OneRow
pub mod LaneLaws
pub mod LaneSets
