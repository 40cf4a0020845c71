pub mod EventRuns
pub mod LawfulRuns
