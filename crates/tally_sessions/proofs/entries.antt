-- Stored entries.
pub mod BatchLemmas
pub mod Front
pub mod HostPlaces
pub mod Lending
pub mod OfHost
