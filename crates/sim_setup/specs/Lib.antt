pub mod Advices
pub mod Clock
pub mod Cores
pub mod Draws
pub mod Lines
pub mod Places
pub mod Sets
