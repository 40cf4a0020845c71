pub mod Through
pub mod Standing
pub mod Passing
pub mod Queued
