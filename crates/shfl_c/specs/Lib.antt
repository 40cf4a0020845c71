pub mod Handles
pub mod Opened
pub mod Verdicts
