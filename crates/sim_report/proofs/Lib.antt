pub mod Rising
pub mod Values
pub mod Totals
pub mod Listed
pub mod EndedRuns
