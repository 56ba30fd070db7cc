pub mod WorkedAnswers
pub mod WorkedHosts
