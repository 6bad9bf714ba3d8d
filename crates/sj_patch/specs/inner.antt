pub mod Changed
pub mod Filled
pub mod Noted
pub mod Operations
pub mod Patch
