pub mod Keys
pub mod Progress
pub mod Distinct
pub mod WithMarks
pub mod Windowed
pub mod Counted
pub mod Increase
