pub mod Changes
pub mod Made
pub mod inner
pub use Rattle.sj_text_core.specs.Places
pub use Rattle.sj_text_core.specs.Paths
pub use Rattle.sj_pointer.specs.Syntax
pub use Rattle.sj_pointer.specs.Tokens
pub use Rattle.sj_pointer.specs.Spelled
pub use Rattle.sj_pointer.specs.Pointed
pub use Rattle.sj_pointer.specs.Laws
pub use Rattle.sj_document.specs.Document
pub use Rattle.sj_document.specs.Rows as DocumentRows
pub use Rattle.sj_lazy.specs.Value
pub use Rattle.sj_lazy.specs.Loans
