-- The tracks of all hosts.
pub mod EveryHost
pub mod HostCounts
pub mod HostSteps
pub mod HostTracks
pub mod NewTracks
pub mod PartLemmas
pub mod Posted
pub mod Staging
pub mod Tracks
pub mod UserSeconds
