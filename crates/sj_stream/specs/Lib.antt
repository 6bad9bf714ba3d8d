pub mod Answers
pub mod Places
pub mod Kept
pub mod Reader
pub mod Stream
pub mod Readings
pub mod inner
pub use Rattle.sj_lines.specs.Lines
pub use Rattle.sj_text_core.specs.Tree
pub use Rattle.sj_text_core.specs.Grammar
pub use Rattle.sj_text_core.specs.Readings as TextReadings
