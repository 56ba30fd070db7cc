pub mod Days
pub mod Files
pub mod Rows
pub mod Rules
pub mod Time
pub mod Words
pub mod Zones
pub mod inside
