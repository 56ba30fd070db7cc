-- What no public contract cites.
pub mod Counts
pub mod Latest
pub mod Sources
