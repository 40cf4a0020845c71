pub mod Tickets
pub mod Attached
pub mod Told
