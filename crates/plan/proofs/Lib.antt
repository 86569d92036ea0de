pub mod Branches
pub mod Gathering
pub mod Formed
