pub mod Commands
pub mod Pictures
