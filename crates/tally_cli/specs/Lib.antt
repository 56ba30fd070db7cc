pub mod Apart
pub mod Output
pub mod Reading
pub mod Runs
pub mod UsageOutput
pub mod Usages
pub mod inside
