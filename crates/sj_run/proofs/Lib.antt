mod Series
mod rows
mod SessionLemmas
mod CommandLemmas
pub mod Edits
pub mod Founds
mod Kept
mod Lazies
