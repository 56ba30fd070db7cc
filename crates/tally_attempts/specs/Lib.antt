pub mod Attempts
pub mod Laws
pub mod Sums
pub mod inside
