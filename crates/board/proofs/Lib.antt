pub mod Asking
pub mod Loads
pub mod Stating
pub mod Listed
pub mod Steps
pub mod Determining
pub mod Numbers
pub mod Rooms
