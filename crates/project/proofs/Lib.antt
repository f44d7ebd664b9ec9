pub mod Checklists
pub mod TaskFaults
pub mod Verdicts
pub mod RoundTrips
pub mod Accepted
pub mod FileRules
pub mod Heads
pub mod ContentsLaws
