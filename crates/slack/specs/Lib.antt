pub mod Rule
pub mod Proportional
pub mod Even
pub mod Tested
pub mod ProportionalLaws
pub mod EvenLaws
