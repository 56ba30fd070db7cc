mod CompressedLemmas
mod ElapsedLemmas
mod NameLemmas
mod PackedLemmas
pub mod Texts
pub mod Words
pub mod Decoded
pub mod Compact
pub mod Members
pub mod SortedLemmas
pub mod WorkedRows
pub mod WorkedBatches
pub mod WorkedChoices
pub mod WorkedContents
pub mod WorkedPacked
