pub mod Shapes
pub mod Bars
pub mod Pictures
