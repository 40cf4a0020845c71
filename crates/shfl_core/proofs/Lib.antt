pub mod CacheLines
pub mod Lists
pub mod Bounded
pub mod Blind
pub mod Standing
pub mod Opening
pub mod StaysAwake
pub mod Rounds
