use Rattle.std.proofs.Common.{◌≡◌, ◌≤◌, ◌&&◌, rules, false, true, not, length, refl, sym, ap, ◌∙◌, Ok, arith}
use Rattle.std.specs.Option.{is_some}
use Rattle.sj_text_core.specs.Tree.{obj, members_len}
use Rattle.sj_text_core.specs.Find.{find_member}
use Rattle.sj_object.specs.Members.{entry_members}
use Rattle.sj_object.specs.Edits.{lookup}
use Rattle.sj_object.specs.Rooms.{places}
use Rattle.sj_object.proofs.Shown.{lookup-entry_members, length-members}
use Rattle.sj_document.specs.Document.{document_tree}
use Rattle.sj_document.proofs.Trees.{is_some-option_map}
use Rattle.sj_patch.specs.inner.Changed.{is_placed}
use Rattle.sj_patch.proofs.Backs.{so, not_so, placed-within, members-insert, and_false}
use Rattle.sj_patch.proofs.reversal.restore_member.Goals as goal

pub returns-then-not-has_place : goal.returns-then-not-has_place
returns-then-not-has_place g c =
    let t = g.T.KeyText.text_of in
    let es = c.args.members.now.entries in
    let ms = entry_members (document_tree t) es in
    let h : c.has_place.result ≡ false = search rules in
    let q : is_placed (members_len ms) (places c.args.room) c.args.index ≡ false = (λ j. is_placed ((sym (length-members (document_tree t) es) ∙ sym c.len.ensures) j) (sym c.places.ensures j) c.args.index) ∙ sym c.has_place.ensures ∙ h in
    (refl, not_so _ _ (ap (λ b. b && not (is_some (find_member (t c.args.key) ms))) q))

pub returns-then-contains_key : goal.returns-then-contains_key
returns-then-contains_key g c =
    let t = g.T.KeyText.text_of in
    let es = c.args.members.now.entries in
    let ms = entry_members (document_tree t) es in
    let k = t c.args.key in
    let h : c.contains_key.result ≡ true = search rules in
    let seen : is_some (find_member k ms) ≡ true = ap is_some (sym (lookup-entry_members (document_tree t) k es)) ∙ is_some-option_map (document_tree t) (lookup k es) ∙ ap (λ l. is_some (lookup l es)) (sym c.text.ensures) ∙ sym c.contains_key.ensures ∙ h in
    (refl, not_so _ _ (ap (λ b. is_placed (members_len ms) (places c.args.room) c.args.index && not b) seen ∙ and_false _))

pub returns : goal.returns
returns g c =
    let t = g.T.KeyText.text_of in
    let es = c.args.members.now.entries in
    let ms = entry_members (document_tree t) es in
    let k = t c.args.key in
    let i = c.args.index in
    let h : c.has_place.result ≡ true = search rules in
    let p : is_placed (members_len ms) (places c.args.room) i ≡ true = (λ j. is_placed ((sym (length-members (document_tree t) es) ∙ sym c.len.ensures) j) (sym c.places.ensures j) i) ∙ sym c.has_place.ensures ∙ h in
    let h2 : c.contains_key.result ≡ false = search rules in
    let n : is_some (find_member k ms) ≡ false = ap is_some (sym (lookup-entry_members (document_tree t) k es)) ∙ is_some-option_map (document_tree t) (lookup k es) ∙ ap (λ l. is_some (lookup l es)) (sym c.text.ensures) ∙ sym c.contains_key.ensures ∙ h2 in
    let among : i ≤ length es = omega (arith, placed-within _ _ i p, length-members (document_tree t) es) in
    (so _ _ (λ j. p j && not (n j)) ∙ ap (λ ms. Ok (obj ms)) (sym (ap (entry_members (document_tree t)) c.restore.ensures.entries ∙ members-insert (document_tree t) es i ((c.args.key, k), c.args.value) among)), c.null.ensures)
