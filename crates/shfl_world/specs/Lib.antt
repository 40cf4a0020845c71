pub mod LawfulLock
pub mod Showing
