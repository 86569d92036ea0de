pub mod Multiples
pub mod Pacing
pub mod Serving
pub mod Spending
pub mod Stating
pub mod Walking
pub mod Keeping
pub mod Rooms
