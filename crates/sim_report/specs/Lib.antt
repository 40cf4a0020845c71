pub mod Tallies
pub mod Endings
pub mod Figures
pub mod Reports
pub mod Spreads
pub mod Whole
pub mod Sums
