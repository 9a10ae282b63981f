pub mod Weights
pub mod Choices
pub mod Moves
