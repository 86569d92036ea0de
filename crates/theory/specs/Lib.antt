pub mod Pattern
pub mod Demand
pub mod Theorems
