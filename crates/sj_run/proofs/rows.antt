-- What the definitions give on small sessions, by computation.
pub mod Sessions
mod Kinds
