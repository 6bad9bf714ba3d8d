use Rattle.std.proofs.Common.{option_map, sym, ap, ◌∙◌}
use Rattle.std.specs.Cow.{cow_str_bytes}
use Rattle.sj_text_core.specs.Repeats.{find_member_by}
use Rattle.sj_object.proofs.Shown.{lookup-entry_members}
use Rattle.sj_document.specs.Document.{document_tree}
use Rattle.sj_document.proofs.Trees.{tree_of_ref}
use Rattle.sj_lazy.specs.Object.{lazy_members, lazy_object_choice}
use Rattle.sj_lazy.proofs.object.Object.get.Goals as goal

pub returns-in-Value-clause-value : goal.returns-in-Value-clause-value
returns-in-Value-clause-value c =
    let k = c.args.key.now in
    c.of_lent.ensures.value ∙ tree_of_ref cow_str_bytes c.get-in-Value.result ∙ ap (option_map (document_tree cow_str_bytes)) c.get-in-Value.ensures ∙ lookup-entry_members (document_tree cow_str_bytes) k c.in-Value.members.now.entries
    ∙ sym (ap (λ o. find_member_by (lazy_object_choice o) k (lazy_members o)) c.in-Value.is)

pub returns-in-Value-clause-choice : goal.returns-in-Value-clause-choice
returns-in-Value-clause-choice c = rw c.in-Value.is c.of_lent.ensures.choice

pub returns-in-Value-clause-form : goal.returns-in-Value-clause-form
returns-in-Value-clause-form c = rw c.in-Value.is c.of_lent.ensures.form
