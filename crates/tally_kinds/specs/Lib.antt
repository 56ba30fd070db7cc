pub mod Kinds
pub mod Marks
pub mod Records
pub mod Sums
pub mod Texts
