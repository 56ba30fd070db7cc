-- What no public contract cites.
pub mod Cells
pub mod LocalTime
pub mod Moments
pub mod Rows
