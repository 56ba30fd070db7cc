-- What no public contract cites.
pub mod Attempts
pub mod LocalTime
pub mod Moments
pub mod Pages
pub mod Paths
pub mod Plain
pub mod Stays
pub mod Tables
