pub mod Handles
pub mod Lent
pub mod Opened
pub mod Calls
pub mod Verdicts
