pub mod Piles
pub mod Runs
pub mod Layouts
pub mod Outputs
pub mod Printed
