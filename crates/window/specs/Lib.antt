pub mod Greatest
pub mod Path
pub mod Recurrences
pub mod Lengths
pub mod Windows
