pub mod Books
pub mod Contents
pub mod Deeds
pub mod Refusals
pub mod Rooms
pub mod inside
