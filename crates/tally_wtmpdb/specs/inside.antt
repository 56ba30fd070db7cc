-- What no public contract cites.
pub mod Files
pub mod Open
