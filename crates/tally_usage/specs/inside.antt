-- What no public contract cites.
pub mod Blocks
pub mod Counted
pub mod Entries
pub mod Keys
pub mod Marks
pub mod Names
pub mod Rows
pub mod Sound
pub mod Usage
