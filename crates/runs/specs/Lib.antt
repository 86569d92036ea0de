pub mod Job
pub mod State
pub mod Next
pub mod Events
pub mod Runs
pub mod Theorems
