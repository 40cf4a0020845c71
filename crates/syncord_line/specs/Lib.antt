pub mod Safety
pub mod Reports
