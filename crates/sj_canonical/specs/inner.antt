pub mod Picks
pub mod Ranks
pub mod Walks
