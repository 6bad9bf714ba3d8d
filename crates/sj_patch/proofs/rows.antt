pub mod Patches
pub mod Operations
