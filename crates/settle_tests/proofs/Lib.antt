pub mod Others
pub mod Pairs
