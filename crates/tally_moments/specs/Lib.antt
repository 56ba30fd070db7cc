pub mod Dates
pub mod Moments
pub mod Seconds
pub mod Shapes
pub mod inside
