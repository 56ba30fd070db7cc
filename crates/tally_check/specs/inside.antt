-- What no public contract cites.
pub mod Endings
pub mod Notes
pub mod Reading
pub mod Spans
pub mod Stepping
pub mod Tallies
pub mod Weights
