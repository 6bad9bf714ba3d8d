use Rattle.std.proofs.Common.{ℕ, List, map, sym, ap, ◌∙◌}
use Rattle.std.specs.Cow.{cow_str_bytes}
use Rattle.sj_text_core.specs.Tree.{Tree, paired}
use Rattle.sj_document.specs.Document.{document_tree}
use Rattle.sj_lazy.specs.Object.{lazy_members}
use Rattle.sj_lazy.proofs.Lists.{texts-members}
use Rattle.sj_lazy.proofs.object.Object.keys.Goals as goal

pub returns-in-Value : goal.returns-in-Value
returns-in-Value c =
    c.keys_of.ensures ∙ texts-members (document_tree cow_str_bytes) c.in-Value.members.now.entries
    ∙ sym (ap (λ o. map (λ (p : List ℕ × Tree). p.0) (paired (lazy_members o))) c.in-Value.is)
