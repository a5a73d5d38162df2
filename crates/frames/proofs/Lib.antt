pub mod Leasts
pub mod Noted
pub mod Narrowings
pub mod PartByPart
pub mod RuleAt
pub mod Supports
pub mod Totals
