pub mod Replay
pub mod Shares
pub mod Tables
pub mod Values
