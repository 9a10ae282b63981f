pub mod LoopStates
pub mod Masks
pub mod SubWords
