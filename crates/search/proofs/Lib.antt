pub mod Halves
pub mod Edits
