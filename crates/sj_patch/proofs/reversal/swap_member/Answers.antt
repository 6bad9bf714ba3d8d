use Rattle.std.proofs.Common.{option_map, refl, sym, ap, ◌∙◌}
use Rattle.sj_text_core.specs.Tree.{obj}
use Rattle.sj_text_core.specs.Edits as members
use Rattle.sj_object.specs.Members.{entry_members}
use Rattle.sj_object.proofs.Shown.{lookup-entry_members, entry_members-set_value}
use Rattle.sj_document.specs.Document.{document_tree}
use Rattle.sj_patch.proofs.Leaves.{not_swapped, swap_done}
use Rattle.sj_patch.proofs.reversal.swap_member.Goals as goal

pub returns-in-Some : goal.returns-in-Some
returns-in-Some g c =
    let t = g.T.KeyText.text_of in
    let es = c.args.members.now.entries in
    let k = c.args.key.now in
    let v = document_tree t c.args.value in
    let old = c.in-Some.child.now in
    swap_done t k v old c.replace.result (obj (entry_members (document_tree t) es)) _ c.replace.ensures.value (sym (lookup-entry_members (document_tree t) k es) ∙ ap (option_map (document_tree t)) (sym c.in-Some.ensures.value)) (ap obj (entry_members-set_value (document_tree t) k c.replace.new.dest old es (sym c.in-Some.ensures.value) ∙ ap (λ w. members.put k (document_tree t w) (entry_members (document_tree t) es)) c.replace.ensures.after))

pub returns-in-None : goal.returns-in-None
returns-in-None g c =
    let t = g.T.KeyText.text_of in
    let es = c.args.members.now.entries in
    let k = c.args.key.now in
    (refl, not_swapped k (document_tree t c.args.value) (obj (entry_members (document_tree t) es)) (sym (lookup-entry_members (document_tree t) k es) ∙ ap (option_map (document_tree t)) (sym c.in-None.ensures.value)))
