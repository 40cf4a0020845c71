pub mod Listed
pub mod Tickets
pub mod Policies
pub mod Told
