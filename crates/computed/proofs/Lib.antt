pub mod Asked
pub mod Graph
pub mod Lengths
pub mod Tables
pub mod Unique
pub mod Windows
pub mod Worked
