pub mod Laws
pub mod Runs
pub mod Values
pub mod Words
