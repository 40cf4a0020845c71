pub mod words
pub mod rows
pub mod kept
pub mod laws
pub mod shown
pub mod plain
pub mod rounds
pub mod runs
