pub mod Tables
pub mod Trees
pub mod Planting
pub mod WindowRows
