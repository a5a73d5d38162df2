pub mod Answers
pub mod Grades
pub mod Labels
pub mod LawfulRules
pub mod Leaves
pub mod Passes
pub mod Rounds
pub mod Theorems
