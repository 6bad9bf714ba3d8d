pub mod Runs
pub mod Takings
