pub mod LongerRounds
pub mod OwnCalls
