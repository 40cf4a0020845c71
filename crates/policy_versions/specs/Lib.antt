pub mod Rule
pub mod Places
pub mod Turning
pub mod Models
pub mod Choosing
pub mod Noting
