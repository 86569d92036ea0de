pub mod Numbers
pub mod View
pub mod Reached
pub mod Arriving
pub mod Ticking
