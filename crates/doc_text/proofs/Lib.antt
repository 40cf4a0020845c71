pub mod Splitting
pub mod LineEnds
pub mod Counting
pub mod Joining
pub mod Due
pub mod Loops
pub mod Decimals
