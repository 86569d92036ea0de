pub mod Maxima
pub mod Paths
pub mod Longest
pub mod Settling
pub mod Weighing
pub mod Laying
pub mod Holding
