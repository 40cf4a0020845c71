-- The plain words and the invariant, both ways.
pub mod Headline
pub mod Facts
pub mod HoldersPlain
pub mod PlainOwed
pub mod PlainHolding
pub mod PlainOrder
pub mod PlainGrouping
pub mod PlainRound
pub mod Plain
pub mod PlainMoves
