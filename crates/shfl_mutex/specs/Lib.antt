pub mod Held
pub mod MutexSeats
