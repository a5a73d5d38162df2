pub mod Entries
pub mod Faults
pub mod Lists
pub mod Made
pub mod Memory
pub mod Reading
