pub mod Firsts
pub mod Listed
pub mod Loads
pub mod Places
pub mod Sorts
pub mod Tagging
