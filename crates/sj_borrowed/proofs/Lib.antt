mod Objects
mod Puts
mod Inserted
mod Members
mod Lives
pub mod rows
