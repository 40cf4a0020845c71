pub mod Text
pub mod Words
pub mod Numbers
pub mod Digits
pub mod Faults
pub mod Spread
pub mod Errors
