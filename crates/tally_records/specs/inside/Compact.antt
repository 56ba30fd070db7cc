-- Login records without the zeros after their texts.
pub mod Decoded
pub mod Kept
pub mod Keys
pub mod Layout
pub mod Words
