-- What no public contract cites.
pub mod Kept
pub mod LoginStates
pub mod LoginStores
pub mod Ready
pub mod Refusals
pub mod RowSums
