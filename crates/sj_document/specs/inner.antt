pub mod Nodes
pub mod Reach
pub mod Piled
pub mod Descents
pub mod SameWith
