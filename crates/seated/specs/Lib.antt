pub mod Jobs
pub mod Lasting
pub mod Placement
pub mod Waits
pub mod Theorems
