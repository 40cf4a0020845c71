pub mod Setups
pub mod Said
pub mod Words
pub mod Lines
pub mod Works
pub mod Queueing
pub mod Grammar
pub mod Answering
