pub mod AtGlobal
pub mod Boxes
pub mod Crossing
pub mod Moves
pub mod Words
