pub mod Kinds
pub mod Paths
pub mod Faults
pub mod Acceptance
pub mod Safety
pub mod Pass
