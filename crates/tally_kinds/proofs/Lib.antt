pub mod WorkedKinds
mod WorkedSums
