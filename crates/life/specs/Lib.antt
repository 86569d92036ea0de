pub mod Standing
pub mod Answered
pub mod Lives
pub mod InStep
