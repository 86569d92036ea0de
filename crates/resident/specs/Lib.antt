pub mod Seats
pub mod Resident
