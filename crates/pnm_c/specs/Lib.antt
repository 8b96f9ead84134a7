pub mod HandedOut
pub mod Reports
