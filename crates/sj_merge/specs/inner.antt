pub mod Change
pub mod Log
pub mod Merge
