pub mod Steps
pub mod Lists
pub mod Lefts
pub mod Paths
pub mod Mapped
pub mod rows
