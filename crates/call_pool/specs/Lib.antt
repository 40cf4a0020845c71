pub mod Pools
pub mod Rounds
pub mod Runs
