pub mod Counts
pub mod Minus
pub mod RunLists
pub mod Words
