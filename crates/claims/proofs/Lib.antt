pub mod Papers
pub mod Demand
pub mod OldTables
pub mod Neighbours
pub mod Times
mod Sheets
pub mod CostliestRuns
pub mod Nested
pub mod ResponseTimes
