pub mod Counts
pub mod Findings
pub mod Kinds
pub mod Logins
pub mod Seen
pub mod Stays
pub mod Steps
pub mod inside
