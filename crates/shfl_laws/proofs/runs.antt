-- What threads did since the opening is a run.
pub mod OwnChanges
pub mod Runs
