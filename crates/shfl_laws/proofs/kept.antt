-- What a step keeps of the registers and of parking.
pub mod Registered
pub mod OwedFrames
pub mod QuietAgrees
pub mod Slept
pub mod Flagged
pub mod OwedCall
pub mod OwedBatch
