pub mod Layers
pub mod Settings
pub mod Demands
