pub mod Arithmetic
pub mod Operations
pub mod Slots
pub mod Meaning
pub mod Instructions
pub mod Examples
