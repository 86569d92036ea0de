pub mod JobTexts
pub mod Masks
pub mod Numbers
