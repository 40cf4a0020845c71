pub mod Blanks
pub mod Attributes
pub mod Headings
pub mod Programs
pub mod Rules
pub mod Accepted
pub mod Errors
pub mod Sections
