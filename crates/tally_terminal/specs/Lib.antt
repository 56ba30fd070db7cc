pub mod About
pub mod Progress
pub mod Shown
