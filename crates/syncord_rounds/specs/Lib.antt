pub mod Commands
pub mod Locks
pub mod Rounds
pub mod Replayed
pub mod Queued
pub mod Reports
