pub mod Calendars
pub mod Marking
pub mod Serving
pub mod Summing
