pub mod History
pub mod Merge
pub mod Numbers
pub mod PoolHistories
