pub mod Growing
pub mod WholeRounds
