pub mod Takers
pub mod Outcomes
