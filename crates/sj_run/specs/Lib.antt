pub mod Replies
pub mod Answers
pub mod Repeats
pub mod Run
pub mod Shown
pub mod Session
pub mod Meant
pub mod Laws
pub mod Answered
pub use Rattle.sj_text_core.specs.Tree
pub use Rattle.sj_text_core.specs.Grammar
pub use Rattle.sj_document.specs.Document
pub use Rattle.sj_lazy.specs.Value
pub use Rattle.sj_commands.specs.Commands
pub use Rattle.sj_commands.specs.Meant as CommandMeant
pub use Rattle.sj_commands.specs.Lines
pub use Rattle.sj_commands.specs.CommandLines
pub use Rattle.sj_commands.specs.Laws as LineLaws
pub mod Faults
pub mod inner
