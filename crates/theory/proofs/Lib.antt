pub mod Greatest
pub mod Windows
pub mod Chains
pub mod Trains
pub mod Grows
pub mod Quick
pub mod Settles
