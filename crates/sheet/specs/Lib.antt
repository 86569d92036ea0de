pub mod Lines
pub mod Sheet
