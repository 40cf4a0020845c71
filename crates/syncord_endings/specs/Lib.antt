pub mod Traffic
pub mod Endings
