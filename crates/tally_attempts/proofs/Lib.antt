pub mod ChosenLemmas
pub mod CountLemmas
pub mod LatestLemmas
pub mod LawLemmas
pub mod SumLemmas
pub mod WorkedAttempts
