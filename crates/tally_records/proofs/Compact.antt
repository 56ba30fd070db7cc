-- The words of login records.
pub mod KeyLemmas
pub mod Laying
pub mod NulFlags
pub mod OneMore
pub mod TextWords
pub mod Tiling
