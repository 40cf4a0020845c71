pub mod Facts
pub mod Scanning
pub mod Walking
pub mod Moving
pub mod Seeing
