pub mod Cells
pub mod Closure
pub mod Left
pub mod Reads
pub mod Scans
pub mod Scopes
pub mod Views
