pub mod NextWords
pub mod Dashes
pub mod Reading
