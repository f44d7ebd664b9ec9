pub mod Replay
pub mod ReplayVerdict
