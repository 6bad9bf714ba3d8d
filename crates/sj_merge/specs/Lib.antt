pub mod Merge
pub mod MergeDiff
pub mod Laws
pub mod inner
pub use Rattle.sj_text_core.specs.Tree
pub use Rattle.sj_document.specs.Document
