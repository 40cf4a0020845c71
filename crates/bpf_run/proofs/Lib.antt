pub mod SlotSteps
pub mod Going
pub mod Raws
