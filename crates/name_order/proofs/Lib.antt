pub mod Sorting
pub mod Placing
pub mod Fronts
pub mod Heads
pub mod InOrder
