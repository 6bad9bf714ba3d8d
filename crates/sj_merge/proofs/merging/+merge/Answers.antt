use Rattle.std.proofs.Common.{◌≡◌, rules, Box, Global, Some, None, option_map, sym, ap, ◌∙◌, arith}
use Rattle.std.proofs.lemmas.Result.{on_ok_weaker}
use Rattle.sj_text_core.specs.Tree.{obj, no_members, depth}
use Rattle.sj_text_core.specs.Find.{find_member}
use Rattle.sj_text_core.specs.Edits as members
use Rattle.sj_text_core.proofs.Shapes.{obj_is}
use Rattle.sj_object.specs.Members.{entry_members}
use Rattle.sj_object.proofs.Shown.{lookup-entry_members, entry_members-set_value, entry_members-put, entry_members-cut}
use Rattle.sj_document.specs.Document.{document_tree}
use Rattle.sj_document.specs.declared.value.Document.{Object, the_lemmas}
use Rattle.sj_document.proofs.Trees.{Map, tree-Object}
use Rattle.sj_merge.specs.Merge.{merged, merged_members, target_members}
use Rattle.sj_merge.proofs.Pairs.{null_of, no_null, no_members_in, merged_pair-cut, merged_pair-put, merged-none, merged_whole}
use Rattle.sj_merge.proofs.merging.+merge.Goals as goal

pub merge_value-merge_object-requires : goal.merge_value-merge_object-requires
merge_value-merge_object-requires g r c κs within =
    let t = g.T.KeyText.text_of in
    (omega (arith, c.decreases, ap depth (obj_is (document_tree t c.args.patch) (entry_members (document_tree t) c.in-Some.members.entries) c.in-Some.ensures)), within)

pub merge_value-returns-then-not-is_object : goal.merge_value-returns-then-not-is_object
merge_value-returns-then-not-is_object g r c =
    let t = g.T.KeyText.text_of in
    merged_whole (Some (document_tree t c.args.target.now)) (document_tree t c.args.patch) (sym c.is_object.ensures ∙ c.if-not-is_object.true)

pub merge_value-returns-in-Some : goal.merge_value-returns-in-Some
merge_value-returns-in-Some g r c =
    let t = g.T.KeyText.text_of in
    let old = document_tree t c.args.target.now in
    let patch = obj_is (document_tree t c.args.patch) (entry_members (document_tree t) c.in-Some.members.entries) c.in-Some.ensures in
    on_ok_weaker c.merge_object.result (λ h. h ∙ ap (merged (Some old)) (sym patch)) c.merge_object.ensures

pub merge_object-returns-in-Object : goal.merge_object-returns-in-Object
merge_object-returns-in-Object g r c =
    let t = g.T.KeyText.text_of in
    let m = c.deref_mut.result.now in
    let n = c.merge_members-in-Object.new.into in
    let b : Box (Map g.row.T.Denot) Global = record c.in-Object.into { value = n } in
    let same : document_tree t c.args.target.now ≡ obj (entry_members (document_tree t) m.entries) =
    (ap (document_tree t) c.in-Object.is ∙ tree-Object t c.in-Object.into) ∙ sym (ap (λ n. obj (entry_members (document_tree t) n.entries)) (c.deref_mut.ensures.value ∙ ap (λ b. b.value) c.in-Object.into-is)) in
    on_ok_weaker c.merge_members-in-Object.result
    (λ h. (ap (document_tree t) (let e : _ ≡ Object b = search (rules, the_lemmas) in e) ∙ tree-Object t b) ∙ ap obj h ∙ ap (λ u. obj (merged_members (target_members (Some u)) (entry_members (document_tree t) c.args.members.entries))) (sym same))
    c.merge_members-in-Object.ensures

pub merge_object-returns-then-not-is_object : goal.merge_object-returns-then-not-is_object
merge_object-returns-then-not-is_object g r c =
    let t = g.T.KeyText.text_of in
    let ms = entry_members (document_tree t) c.args.members.entries in
    let none : target_members (Some (document_tree t c.args.target.now)) ≡ no_members = no_members_in (document_tree t c.args.target.now) (sym c.is_object.ensures ∙ c.if-not-is_object.true) in
    tree-Object t c.in_ok-new.field-0
    ∙ ap obj (ap (λ m. entry_members (document_tree t) m.entries) c.in_ok-new.ensures.ok ∙ c.in_ok-merge_members.ensures ∙ ap (λ es. merged_members (entry_members (document_tree t) es) ms) c.in_ok-made.ensures.entries ∙ ap (λ x. merged_members x ms) (sym none))

pub merge_member-returns-then-is_null : goal.merge_member-returns-then-is_null
merge_member-returns-then-is_null g r c =
    let t = g.T.KeyText.text_of in
    let es = c.args.into.now.entries in
    let ms = entry_members (document_tree t) es in
    ap (entry_members (document_tree t)) c.remove.ensures.entries ∙ entry_members-cut (document_tree t) c.text.result.now es ∙ ap (λ k. members.cut k ms) c.text.ensures
    ∙ sym (merged_pair-cut (t c.args.key) (document_tree t c.args.value) ms (null_of (document_tree t c.args.value) (sym c.is_null.ensures ∙ c.if-is_null.true)))

pub merge_member-returns-in-Some : goal.merge_member-returns-in-Some
merge_member-returns-in-Some g r c =
    let t = g.T.KeyText.text_of in
    let es = c.args.into.now.entries in
    let ms = entry_members (document_tree t) es in
    let k = c.text-2.result.now in
    let v = document_tree t c.args.value in
    let old = c.in-Some.child.now in
    let found : Some (document_tree t old) ≡ find_member (t c.args.key) ms = ap (option_map (document_tree t)) c.in-Some.ensures.value ∙ lookup-entry_members (document_tree t) k es ∙ ap (λ k. find_member k ms) c.text-2.ensures in
    on_ok_weaker c.merge_value.result
    (λ h. entry_members-set_value (document_tree t) k c.merge_value.new.target old es (sym c.in-Some.ensures.value) ∙ (λ j. members.put (c.text-2.ensures j) (h j) ms)
    ∙ ap (λ o. members.put (t c.args.key) (merged o v) ms) found ∙ sym (merged_pair-put (t c.args.key) v ms (no_null v (sym c.is_null.ensures ∙ c.if-is_null.false))))
    c.merge_value.ensures

pub merge_member-returns-in-Ok : goal.merge_member-returns-in-Ok
merge_member-returns-in-Ok g r c =
    let t = g.T.KeyText.text_of in
    let es = c.args.into.now.entries in
    let ms = entry_members (document_tree t) es in
    let k = c.text-2.result.now in
    let v = document_tree t c.args.value in
    let made = c.merge_value-2.new.target in
    let none : None ≡ find_member (t c.args.key) ms = ap (option_map (document_tree t)) c.in_default.ensures.value ∙ lookup-entry_members (document_tree t) k es ∙ ap (λ k. find_member k ms) c.text-2.ensures in
    ap (entry_members (document_tree t)) c.in-Ok.ensures.entries ∙ entry_members-put (document_tree t) (c.args.key, t c.args.key) made es
    ∙ ap (λ u. members.put (t c.args.key) u ms) (c.in_ok-merge_value.ensures ∙ ap (λ x. merged (Some x) v) c.null-made.ensures ∙ merged-none v ∙ ap (λ o. merged o v) none)
    ∙ sym (merged_pair-put (t c.args.key) v ms (no_null v (sym c.is_null.ensures ∙ c.if-is_null.false)))
