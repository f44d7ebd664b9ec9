pub mod CostliestRuns
pub mod CostliestVerdicts
pub mod FoundRows
pub mod FindLaws
pub mod Answers
pub mod PartsLaws
