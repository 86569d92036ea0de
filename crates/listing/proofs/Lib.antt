pub mod Found
pub mod Leftover
pub mod Making
