pub mod Kinds
pub use Rattle.sj_text_core.specs.Tree
pub use Rattle.sj_text_core.specs.Reads
