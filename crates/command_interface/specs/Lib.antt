pub mod Asked
pub mod Reports
