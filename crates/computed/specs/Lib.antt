pub mod Alike
pub mod Asked
pub mod Graph
pub mod Lengths
pub mod Tables
pub mod Windows
