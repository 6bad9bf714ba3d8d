pub mod Pieces
pub mod Counted
pub use Rattle.sj_lines.specs.Lines
