pub mod Files
pub mod Papers
pub mod Demand
pub mod OldTables
pub mod Times
pub mod CostliestRuns
pub mod Nested
pub mod ResponseTimes
