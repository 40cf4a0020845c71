pub mod KeptReads
pub mod RwCells
pub mod Closings
pub mod CallOrder
