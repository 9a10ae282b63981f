pub mod Cutting
pub mod Tests
pub mod Coding
