pub mod Gathering
pub mod First
pub mod Sweep
pub mod Turning
pub mod Arriving
pub mod LastArrival
pub mod Masks
