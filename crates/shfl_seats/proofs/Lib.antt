pub mod Holds
pub mod HoldsAgree
