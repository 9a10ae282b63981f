pub mod Views
pub mod Counts
