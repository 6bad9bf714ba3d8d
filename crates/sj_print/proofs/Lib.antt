pub mod Runs
pub mod Lanes
pub mod Escapes
pub mod Utf8
pub mod Puts
pub mod Layouts
pub mod Walks
pub mod Piles
pub mod Ends
mod Places
pub mod Printed
pub mod rows
