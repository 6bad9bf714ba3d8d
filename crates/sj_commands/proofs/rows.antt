-- What the definitions give on small inputs and lines, by computation.
pub mod Cuts
pub mod Commands
pub mod Widths
