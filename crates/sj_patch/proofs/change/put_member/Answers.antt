use Rattle.std.proofs.Common.{◌≡◌, option_map, sym, ap, ◌∙◌}
use Rattle.sj_text_core.specs.Tree.{obj}
use Rattle.sj_text_core.specs.Find.{find_member}
use Rattle.sj_text_core.specs.Edits as members
use Rattle.sj_object.specs.Members.{entry_members}
use Rattle.sj_object.proofs.Shown.{lookup-entry_members, entry_members-put}
use Rattle.sj_document.specs.Document.{document_tree}
use Rattle.sj_patch.proofs.Leaves.{member_put, member_put_over}
use Rattle.sj_patch.proofs.change.put_member.Goals as goal

pub returns-in-Some : goal.returns-in-Some
returns-in-Some g c =
    let t = g.T.KeyText.text_of in
    let es = c.args.members.now.entries in
    let k = c.args.key.now in
    let v = c.args.value in
    let ms = entry_members (document_tree t) es in
    let name : t c.owned-name.result ≡ k = c.owned-name.ensures ∙ c.in-Ok.ensures.ok in
    let found = ap (λ k. find_member k ms) (sym name) ∙ sym (lookup-entry_members (document_tree t) (t c.owned-name.result) es) ∙ ap (option_map (document_tree t)) (sym c.in-Ok-insert.ensures.answer ∙ c.in-Some.is) in
    member_put_over t k v c.in-Some.before ms _ found
    (ap obj (ap (entry_members (document_tree t)) c.in-Ok-insert.ensures.entries ∙ entry_members-put (document_tree t) (c.owned-name.result, t c.owned-name.result) v es ∙ ap (λ k. members.put k (document_tree t v) ms) name))

pub returns-in-None : goal.returns-in-None
returns-in-None g c =
    let t = g.T.KeyText.text_of in
    let es = c.args.members.now.entries in
    let k = c.args.key.now in
    let v = c.args.value in
    let ms = entry_members (document_tree t) es in
    let name : t c.owned-name.result ≡ k = c.owned-name.ensures ∙ c.in-Ok.ensures.ok in
    let missing = ap (λ k. find_member k ms) (sym name) ∙ sym (lookup-entry_members (document_tree t) (t c.owned-name.result) es) ∙ ap (option_map (document_tree t)) (sym c.in-Ok-insert.ensures.answer ∙ c.in-None.is) in
    member_put t k v ms _ _ missing
    (ap obj (ap (entry_members (document_tree t)) c.in-Ok-insert.ensures.entries ∙ entry_members-put (document_tree t) (c.owned-name.result, t c.owned-name.result) v es ∙ ap (λ k. members.put k (document_tree t v) ms) name))
