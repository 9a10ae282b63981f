pub mod Counts
pub mod Reach
