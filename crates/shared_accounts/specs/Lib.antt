pub mod Accounts
pub mod Rounds
