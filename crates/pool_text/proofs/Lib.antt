pub mod Faults
pub mod CallsOf
