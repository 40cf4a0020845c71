pub mod Departures
pub mod Overtaking
pub mod SharedSteps
pub mod Stealing
pub mod Runs
