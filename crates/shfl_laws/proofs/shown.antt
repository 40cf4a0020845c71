-- What a lawful world shows: one state, well formed, and the one that is computed.
pub mod Shown
pub mod ShownOne
pub mod ShownLine
pub mod HoldersBelow
pub mod WellFormed
