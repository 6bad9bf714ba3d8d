pub mod Begun
pub mod Next
pub mod Lens
pub mod Two
pub mod Steps
