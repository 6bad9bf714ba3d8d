use Rattle.std.proofs.Common.{sym, ap, ◌∙◌}
use Rattle.std.specs.Cow.{cow_str_bytes}
use Rattle.sj_text_core.specs.Tree.{members_len}
use Rattle.sj_object.proofs.Shown.{length-members}
use Rattle.sj_document.specs.Document.{document_tree}
use Rattle.sj_lazy.specs.Object.{lazy_members}
use Rattle.sj_lazy.proofs.object.Object.len.Goals as goal

pub returns-in-Value : goal.returns-in-Value
returns-in-Value c =
    c.len-in-Value.ensures ∙ length-members (document_tree cow_str_bytes) c.in-Value.members.now.entries ∙ sym (ap (λ o. members_len (lazy_members o)) c.in-Value.is)
