pub use Rattle.sj_text_core.specs.Tree
pub use Rattle.sj_text_core.specs.Grammar
pub use Rattle.sj_text_core.specs.Readings
pub use Rattle.sj_text_core.specs.Keep
pub use Rattle.sj_text_core.specs.Repeats
pub use Rattle.sj_text_core.specs.Print
pub use Rattle.sj_tape.specs.Value as TapeValue
pub use Rattle.sj_document.specs.Document
