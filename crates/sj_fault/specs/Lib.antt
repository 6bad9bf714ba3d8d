pub mod Begin
pub mod Place
pub use Rattle.sj_text_core.specs.Tree
pub use Rattle.sj_text_core.specs.Grammar
