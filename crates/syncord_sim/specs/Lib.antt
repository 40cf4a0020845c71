pub mod Commands
pub mod Simulations
