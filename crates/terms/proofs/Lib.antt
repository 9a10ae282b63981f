pub mod Ends
pub mod Windows
pub mod Shapes
pub mod Codes
