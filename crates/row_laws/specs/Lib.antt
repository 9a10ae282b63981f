pub mod Lists
pub mod Rows
pub mod Progress
pub mod Windowed
