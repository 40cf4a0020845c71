pub mod PolicyLoop
pub mod Leftover
pub mod Once
