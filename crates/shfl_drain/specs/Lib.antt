pub mod GoingOn
pub mod Progress
pub mod Drain
pub mod Schedules
pub mod Windows
pub mod Reopening
pub mod HandingOn
