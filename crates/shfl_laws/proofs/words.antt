-- What the operations make of words: bits, and from lists of words to the world as it is read.
pub mod StateBits
pub mod LockBits
pub mod BeginBits
pub mod MarkBits
pub mod Frame
pub mod Advance
pub mod Leasts
pub mod TermsTold
