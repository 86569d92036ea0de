pub mod Plan
pub mod Part
pub mod Pattern
