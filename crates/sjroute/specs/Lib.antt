pub mod Selects
pub mod Routed
