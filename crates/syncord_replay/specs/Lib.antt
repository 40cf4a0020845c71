pub mod Runnable
pub mod Replays
pub mod Serial
pub mod Sums
