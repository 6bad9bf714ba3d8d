-- What the definitions give on small examples, by computation.
pub mod Marks
pub mod Parts
pub mod Lookups
