pub mod Words
pub mod Passes
pub mod Line
pub mod Steps
pub mod Tests
pub mod Shown
pub mod Policies
pub mod Rounds
