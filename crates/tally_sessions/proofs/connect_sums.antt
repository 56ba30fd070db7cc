-- Connect time of records that are not kept.
pub mod CountLemmas
pub mod CountedHosts
pub mod EndedLemmas
pub mod EndedSeconds
pub mod KeptLemmas
pub mod SessionLemmas
pub mod SlotLemmas
pub mod TotalLemmas
pub mod WalkLemmas
