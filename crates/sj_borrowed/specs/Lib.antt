pub mod Loans
pub mod Inserts
pub use Rattle.sj_text_core.specs.Tree
pub use Rattle.sj_text_core.specs.Grammar
pub use Rattle.sj_text_core.specs.Readings
pub use Rattle.sj_text_core.specs.Find
pub use Rattle.sj_text_core.specs.Keep
pub use Rattle.sj_text_core.specs.Repeats
pub use Rattle.sj_text_core.specs.Print
pub use Rattle.sj_text_core.specs.Reads
pub use Rattle.sj_text_core.specs.Hash
pub use Rattle.sj_object.specs.Keys
pub use Rattle.sj_object.specs.Edits
pub use Rattle.sj_object.specs.Index
pub use Rattle.sj_tape.specs.Value as TapeValue
pub use Rattle.sj_document.specs.Document
pub mod Faults
