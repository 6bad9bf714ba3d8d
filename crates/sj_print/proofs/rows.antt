-- What the definitions give on small examples, by computation.
pub mod Generators
pub mod Printed
pub mod Runs
