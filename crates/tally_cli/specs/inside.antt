-- What no public contract cites.
pub mod Asked
pub mod Counts
pub mod Deals
pub mod Failures
pub mod Files
pub mod LoginCounts
pub mod Parts
pub mod Paths
pub mod RunSteps
pub mod Tasks
