pub mod Texts
pub mod Below
pub mod Calls
pub mod Report
pub mod Rehearsal
