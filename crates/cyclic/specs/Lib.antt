pub mod Ones
pub mod Least
pub mod Fewest
pub mod OnesLaws
pub mod LeastLaws
pub mod FewestLaws
