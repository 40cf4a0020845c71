-- What is left of a round, and that it is short.
pub mod Stretch
pub mod MeasureRows
pub mod MeasureMoves
pub mod MeasureRounds
pub mod MeasureAttempts
pub mod MeasureShown
