-- What no public contract cites.
pub mod Commands
pub mod LineSteps
