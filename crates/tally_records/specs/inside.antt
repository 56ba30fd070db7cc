-- What no public contract cites.
pub mod Compact
pub mod Items
pub mod Lengths
pub mod Names
pub mod Values
