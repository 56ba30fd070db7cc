pub mod CheckTable
pub mod Kinds
pub mod Moments
pub mod Quoted
pub mod SectionText
pub mod inside
