pub mod Value
pub mod Array
pub mod Object
pub mod Edits
pub mod Loans
pub mod SameMap
pub mod Rows
pub mod Paths
pub mod inner
pub use Rattle.sj_text_core.specs.Tree
pub use Rattle.sj_text_core.specs.Find
pub use Rattle.sj_text_core.specs.Keep
pub use Rattle.sj_text_core.specs.Repeats
pub use Rattle.sj_text_core.specs.Same
pub use Rattle.sj_text_core.specs.Equal
pub use Rattle.sj_text_core.specs.Scalars
pub use Rattle.sj_text_core.specs.Reads
pub use Rattle.sj_text_core.specs.Print
pub use Rattle.sj_text_core.specs.Paths as TreePaths
pub use Rattle.sj_tape.specs.Value as TapeValue
pub use Rattle.sj_tape.specs.Members as TapeMembers
pub use Rattle.sj_object.specs.Keys
pub use Rattle.sj_object.specs.Members
pub use Rattle.sj_document.specs.Document
pub use Rattle.sj_document.specs.Makes
pub use Rattle.sj_document.specs.SameWith
pub use Rattle.sj_document.specs.Rows as DocumentRows
