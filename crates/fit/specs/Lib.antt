pub mod Fits
pub mod Multiple
pub mod Stated
pub mod Room
