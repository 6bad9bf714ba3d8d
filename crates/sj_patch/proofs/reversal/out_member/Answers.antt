use Rattle.std.proofs.Common.{option_map, Ok, sym, ap, ◌∙◌}
use Rattle.sj_text_core.specs.Tree.{obj}
use Rattle.sj_text_core.specs.inner.Find.{or_null}
use Rattle.sj_text_core.proofs.Writes.{cut-absent}
use Rattle.sj_object.specs.Members.{entry_members}
use Rattle.sj_object.proofs.Shown.{lookup-entry_members, entry_members-cut}
use Rattle.sj_document.specs.Document.{document_tree}
use Rattle.sj_patch.proofs.Leaves.{removed_member, no_member}
use Rattle.sj_patch.proofs.reversal.out_member.Goals as goal

pub returns-in-Some : goal.returns-in-Some
returns-in-Some g c =
    let t = g.T.KeyText.text_of in
    let es = c.args.members.now.entries in
    let k = c.args.key.now in
    let ms = entry_members (document_tree t) es in
    let found = sym (lookup-entry_members (document_tree t) k es) ∙ ap (option_map (document_tree t)) (sym c.in-Some.ensures.answer) in
    (removed_member k ms (document_tree t c.in-Some.taken) found ∙ ap (λ ms. Ok (obj ms)) (sym (ap (entry_members (document_tree t)) c.in-Some.ensures.entries ∙ entry_members-cut (document_tree t) k es)), sym (ap or_null found))

pub returns-in-None : goal.returns-in-None
returns-in-None g c =
    let t = g.T.KeyText.text_of in
    let es = c.args.members.now.entries in
    let k = c.args.key.now in
    let ms = entry_members (document_tree t) es in
    let missing = sym (lookup-entry_members (document_tree t) k es) ∙ ap (option_map (document_tree t)) (sym c.in-None.ensures.answer) in
    (ap obj (ap (entry_members (document_tree t)) c.in-None.ensures.entries ∙ entry_members-cut (document_tree t) k es ∙ cut-absent k ms missing), no_member k ms missing)
