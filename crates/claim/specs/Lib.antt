pub mod Claim
pub mod Asking
pub mod Making
pub mod Plateau
