pub mod Owned
pub mod Meant
pub mod Shown
pub mod Refusals
pub mod Statuses
pub mod Lines
pub mod Edits
pub mod Patches
