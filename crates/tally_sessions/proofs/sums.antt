-- Sessions, and sums over them.
pub mod Additive
pub mod EverySession
pub mod EveryStay
pub mod HostNumbers
pub mod HostSums
pub mod NamedUsers
pub mod NewNames
pub mod PeriodParts
pub mod SessionLists
pub mod SumLemmas
pub mod SumSteps
pub mod UserParts
