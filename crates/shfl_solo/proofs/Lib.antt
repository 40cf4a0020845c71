pub mod Permits
pub mod Moved
pub mod Kept
pub mod Opens
pub mod Rounds
