pub mod Reaching
pub mod Jobs
pub mod Arrivals
