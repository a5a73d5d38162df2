pub mod Books
pub mod Joining
pub mod Rings
pub mod Rules
pub mod Seen
pub mod Theorems
pub mod Tree
pub mod Writes
