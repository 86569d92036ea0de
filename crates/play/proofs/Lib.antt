pub mod Left
pub mod Naming
