pub mod Backward
pub mod FourWords
pub mod WordSets
