pub mod Context
pub mod Policies
pub mod Loading
