mod Weights
mod Moves
mod Filled
