pub mod KeptShards
pub mod Naming
pub mod Commits
pub mod Locks
pub mod ShardPasses
pub mod ShardedDirs
pub mod Closings
