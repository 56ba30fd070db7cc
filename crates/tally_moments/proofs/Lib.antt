pub mod MomentLemmas
pub mod Reaching
pub mod ShapeLemmas
mod WorkedMoments
