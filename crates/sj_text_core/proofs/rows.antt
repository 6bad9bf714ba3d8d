-- What the definitions give on small examples, by computation.
pub mod Trees
pub mod Numbers
pub mod Reads
pub mod Sameness
pub mod Spelling
pub mod Limits
pub mod Misspelled
pub mod Structure
pub mod Nodes
pub mod Repeats
pub mod Places
