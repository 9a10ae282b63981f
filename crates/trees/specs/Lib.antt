pub mod Fields
pub mod Marks
pub mod Tables
pub mod Trees
pub mod Planting
pub mod Outcome
