pub mod Repeats
pub mod Position
pub mod Places
pub mod Lent
pub mod Chains
pub mod Holes
pub mod Chained
pub mod Tables
pub mod Walked
pub mod Hashed
pub mod Stored
pub mod Inserted
pub mod Restored
pub mod Retained
pub mod Added
pub mod Shown
pub mod Kept
pub mod Walks
mod Compared
mod Strings
pub mod PileEntries
pub mod KeptBy
pub mod Piles
pub mod rows
