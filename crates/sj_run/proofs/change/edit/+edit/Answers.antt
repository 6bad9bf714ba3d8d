use Rattle.std.proofs.Common.{◌≡◌, rules, Box, Vec, Global, ◌∷◌, map, option_map, sym, ap, ◌∙◌, arith}
use Rattle.sj_text_core.specs.Tree.{list, obj, items_from}
use Rattle.sj_text_core.specs.Paths.{by_key, by_place, by_token}
use Rattle.sj_object.specs.Members.{entry_members}
use Rattle.sj_object.proofs.Shown.{lookup-entry_members, entry_members-set_value}
use Rattle.sj_document.specs.Document.{document_tree}
use Rattle.sj_document.specs.declared.value.Document.{Document, Object, Array, the_lemmas}
use Rattle.sj_document.proofs.Trees.{Map, tree-Object, tree-Array}
use Rattle.sj_document.proofs.Arrays.{item_at, item_set, none_nth}
use Rattle.sj_run.specs.Answers.{edit}
use Rattle.sj_commands.specs.Meant.{step_meant, write_meant}
use Rattle.sj_run.proofs.Edits.{answered_below, answered_as, edit_missing, edit-member, edit-item}
use Rattle.sj_run.proofs.change.edit.+edit.Goals as goal

pub edit_member-returns-in-Some : goal.edit_member-returns-in-Some
edit_member-returns-in-Some g r c =
    let t = g.T.KeyText.text_of in
    let es = c.args.members.now.entries in
    let k = c.args.key.now in
    answered_below t (by_key k) (map step_meant c.args.rest.now) (write_meant t c.args.write) (obj (entry_members (document_tree t) es)) _ (document_tree t c.in-Some.child.now) (document_tree t c.edit_near.new.value) c.edit_near.result
    (sym (lookup-entry_members (document_tree t) k es) ∙ ap (option_map (document_tree t)) (sym c.in-Some.ensures.value))
    (ap obj (entry_members-set_value (document_tree t) k c.edit_near.new.value c.in-Some.child.now es (sym c.in-Some.ensures.value))) c.edit_near.ensures

pub edit_member-returns-in-None : goal.edit_member-returns-in-None
edit_member-returns-in-None g r c =
    let t = g.T.KeyText.text_of in
    let es = c.args.members.now.entries in
    let k = c.args.key.now in
    sym (edit_missing (by_key k) (map step_meant c.args.rest.now) (write_meant t c.args.write) (obj (entry_members (document_tree t) es))
    (sym (lookup-entry_members (document_tree t) k es) ∙ ap (option_map (document_tree t)) (sym c.in-None.ensures.value)))

pub edit_item-returns-then-at-len : goal.edit_item-returns-then-at-len
edit_item-returns-then-at-len g r c =
    let t = g.T.KeyText.text_of in
    let vs = c.args.items.now.items in
    answered_below t (by_place c.args.at) (map step_meant c.args.rest.now) (write_meant t c.args.write) (list (items_from (map (document_tree t) vs))) _ (document_tree t c.index_mut.result.now) (document_tree t c.edit_near.new.value) c.edit_near.result
    (item_at t vs c.args.at c.index_mut.result.now (omega (arith, c.if-at-len.true, c.len.ensures, c.args.items.now.ok.0)) c.index_mut.ensures.value)
    (ap list (item_set t vs c.args.at c.edit_near.new.value)) c.edit_near.ensures

pub edit_item-returns-else-at-len : goal.edit_item-returns-else-at-len
edit_item-returns-else-at-len g r c =
    let t = g.T.KeyText.text_of in
    sym (edit_missing (by_place c.args.at) (map step_meant c.args.rest.now) (write_meant t c.args.write) (list (items_from (map (document_tree t) c.args.items.now.items)))
    (sym (none_nth t c.args.items.now.items c.args.at (omega (arith, c.if-at-len.false, c.len.ensures, c.args.items.now.ok.0)))))

pub edit_step-returns-in-Object : goal.edit_step-returns-in-Object
edit_step-returns-in-Object g r c =
    let t = g.T.KeyText.text_of in
    let m = c.deref_mut.result.now in
    let n = c.edit_member.new.members in
    let b : Box (Map g.row.T.Denot) Global = record c.in-Object.members { value = n } in
    let same : document_tree t c.args.value.now ≡ obj (entry_members (document_tree t) m.entries) =
    (ap (document_tree t) c.in-Object.is ∙ tree-Object t c.in-Object.members) ∙ sym (ap (λ n. obj (entry_members (document_tree t) n.entries)) (c.deref_mut.ensures.value ∙ ap (λ b. b.value) c.in-Object.members-is)) in
    let p = map step_meant c.args.rest.now in
    let w = write_meant t c.args.write in
    let step : step_meant c.args.step.now ≡ by_key c.as_str.result.now = ap step_meant c.in-Key.is ∙ ap by_key (sym c.as_str.ensures.value) in
    answered_as t (by_key c.as_str.result.now ∷ p) (step_meant c.args.step.now ∷ p) w (obj (entry_members (document_tree t) m.entries)) (document_tree t c.args.value.now) (obj (entry_members (document_tree t) n.entries)) _ c.edit_member.result
    (λ j. edit (step j ∷ p) w (same j)) same
    (ap (document_tree t) (let e : _ ≡ Object b = search (rules, the_lemmas) in e) ∙ tree-Object t b) c.edit_member.ensures

pub edit_step-returns-in-Array : goal.edit_step-returns-in-Array
edit_step-returns-in-Array g r c =
    let t = g.T.KeyText.text_of in
    let m = c.deref_mut-in-Array.result.now in
    let n = c.edit_item.new.items in
    let b : Box (Vec (Document g.row.T.Denot) Global) Global = record c.in-Array.items { value = n } in
    let same : document_tree t c.args.value.now ≡ list (items_from (map (document_tree t) m.items)) =
    (ap (document_tree t) c.in-Array.is ∙ tree-Array t c.in-Array.items) ∙ sym (ap (λ n. list (items_from (map (document_tree t) n.items))) (c.deref_mut-in-Array.ensures.value ∙ ap (λ b. b.value) c.in-Array.items-is)) in
    let p = map step_meant c.args.rest.now in
    let w = write_meant t c.args.write in
    answered_as t (by_place c.in-Idx.at ∷ p) (step_meant c.args.step.now ∷ p) w (list (items_from (map (document_tree t) m.items))) (document_tree t c.args.value.now) (list (items_from (map (document_tree t) n.items))) _ c.edit_item.result
    (λ j. edit (step_meant (c.in-Idx.is j) ∷ p) w (same j)) same
    (ap (document_tree t) (let e : _ ≡ Array b = search (rules, the_lemmas) in e) ∙ tree-Array t b) c.edit_item.ensures

pub edit_token-returns-in-Object : goal.edit_token-returns-in-Object
edit_token-returns-in-Object g r c =
    let t = g.T.KeyText.text_of in
    let m = c.deref_mut.result.now in
    let n = c.edit_member.new.members in
    let b : Box (Map g.row.T.Denot) Global = record c.in-Object.members { value = n } in
    let same : document_tree t c.args.value.now ≡ obj (entry_members (document_tree t) m.entries) =
    (ap (document_tree t) c.in-Object.is ∙ tree-Object t c.in-Object.members) ∙ sym (ap (λ n. obj (entry_members (document_tree t) n.entries)) (c.deref_mut.ensures.value ∙ ap (λ b. b.value) c.in-Object.members-is)) in
    let k = c.args.token.now in
    let p = map step_meant c.args.rest.now in
    let w = write_meant t c.args.write in
    answered_as t (by_key k ∷ p) (by_token k ∷ p) w (obj (entry_members (document_tree t) m.entries)) (document_tree t c.args.value.now) (obj (entry_members (document_tree t) n.entries)) _ c.edit_member.result
    (ap (edit (by_token k ∷ p) w) same ∙ edit-member k p w (entry_members (document_tree t) m.entries)) same
    (ap (document_tree t) (let e : _ ≡ Object b = search (rules, the_lemmas) in e) ∙ tree-Object t b) c.edit_member.ensures

pub edit_token-returns-in-Some : goal.edit_token-returns-in-Some
edit_token-returns-in-Some g r c =
    let t = g.T.KeyText.text_of in
    let m = c.deref_mut-in-Array.result.now in
    let n = c.edit_item.new.items in
    let b : Box (Vec (Document g.row.T.Denot) Global) Global = record c.in-Array.items { value = n } in
    let same : document_tree t c.args.value.now ≡ list (items_from (map (document_tree t) m.items)) =
    (ap (document_tree t) c.in-Array.is ∙ tree-Array t c.in-Array.items) ∙ sym (ap (λ n. list (items_from (map (document_tree t) n.items))) (c.deref_mut-in-Array.ensures.value ∙ ap (λ b. b.value) c.in-Array.items-is)) in
    let k = c.args.token.now in
    let p = map step_meant c.args.rest.now in
    let w = write_meant t c.args.write in
    answered_as t (by_place c.in-Some.at ∷ p) (by_token k ∷ p) w (list (items_from (map (document_tree t) m.items))) (document_tree t c.args.value.now) (list (items_from (map (document_tree t) n.items))) _ c.edit_item.result
    (ap (edit (by_token k ∷ p) w) same ∙ edit-item k c.in-Some.at p w (items_from (map (document_tree t) m.items)) (sym c.in-Some.ensures)) same
    (ap (document_tree t) (let e : _ ≡ Array b = search (rules, the_lemmas) in e) ∙ tree-Array t b) c.edit_item.ensures
