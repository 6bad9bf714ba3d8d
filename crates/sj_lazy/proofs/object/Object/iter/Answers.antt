use Rattle.std.proofs.Common.{map, sym, ap, ◌∙◌}
use Rattle.std.specs.Cow.{cow_str_bytes}
use Rattle.sj_text_core.specs.declared.repeats.Repeats.TheVariants.{First}
use Rattle.sj_tape.specs.Members.{chosen_pairs}
use Rattle.sj_text_core.specs.Tree.{paired}
use Rattle.sj_object.specs.Members.{entry_members}
use Rattle.sj_document.specs.Document.{document_tree}
use Rattle.sj_lazy.specs.Object.{lazy_members}
use Rattle.sj_lazy.specs.Value.{of_lent}
use Rattle.sj_lazy.proofs.Lists.{paired-members, parts-members}
use Rattle.sj_lazy.proofs.object.Object.iter.Goals as goal

pub returns-in-Value-clause-members : goal.returns-in-Value-clause-members
returns-in-Value-clause-members c =
    paired-members cow_str_bytes (document_tree cow_str_bytes) c.iter-in-Value.result ∙ ap (λ es. paired (entry_members (document_tree cow_str_bytes) es)) c.iter-in-Value.ensures ∙ sym (ap (λ o. paired (lazy_members o)) c.in-Value.is)

pub returns-in-Value-clause-parts : goal.returns-in-Value-clause-parts
returns-in-Value-clause-parts c =
    rw c.in-Value.is (
    parts-members cow_str_bytes (document_tree cow_str_bytes) c.iter-in-Value.result
    ∙ ap (λ es. map (λ p. (p.0, (of_lent, p.1))) (chosen_pairs First (paired (entry_members (document_tree cow_str_bytes) es)))) c.iter-in-Value.ensures
    )
