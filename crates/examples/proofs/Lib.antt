pub mod Played
pub mod Proved
