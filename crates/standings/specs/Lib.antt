pub mod Rows
pub mod Children
pub mod Loops
