pub mod Slots
pub mod Lends
