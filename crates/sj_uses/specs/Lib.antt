pub mod Routing
pub mod Patch
pub mod Merge
pub mod Typed
pub mod Fleet
