pub mod Rules
pub mod Answer
pub mod Lines
pub mod Listing
