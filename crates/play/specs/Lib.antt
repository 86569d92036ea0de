pub mod Words
pub mod Setup
pub mod Name
pub mod Call
pub mod Answer
pub mod Standing
pub mod Whole
pub mod Texts
