pub mod Parse
pub mod Flat
pub mod Agree
pub mod Find
pub mod Nodes
pub mod ScalarValues
pub mod Begun
