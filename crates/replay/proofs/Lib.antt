pub mod CountLaws
pub mod Replays
pub mod CallLaws
