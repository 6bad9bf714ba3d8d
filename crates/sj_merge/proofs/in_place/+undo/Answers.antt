use Rattle.std.proofs.Common.{◌≡◌, rules, Box, Global, Some, None, option_map, sym, ap, ◌∙◌, arith}
use Rattle.sj_text_core.specs.Tree.{obj}
use Rattle.sj_text_core.specs.Find.{find_member}
use Rattle.sj_text_core.specs.Edits as members
use Rattle.sj_object.specs.Members.{entry_members}
use Rattle.sj_object.proofs.Shown.{lookup-entry_members, entry_members-set_value}
use Rattle.sj_document.specs.Document.{document_tree}
use Rattle.sj_document.specs.declared.value.Document.{Object, the_lemmas}
use Rattle.sj_document.proofs.Trees.{Map, tree-Object}
use Rattle.sj_merge.specs.inner.Log.{in_object, undone_one, log_undone}
use Rattle.sj_merge.proofs.Passing.{changed-found, changed-absent}
use Rattle.sj_merge.proofs.Logs.{log_depth, depth-last, undone-Added, undone-Swapped, undone-Within, undone-last, popped}
use Rattle.sj_merge.proofs.in_place.+undo.Goals as goal

pub undo-undo_one-requires : goal.undo-undo_one-requires
undo-undo_one-requires g r c κs within =
    (omega (arith, c.decreases, c.loop-last.invariant.within, depth-last c.pop.new.self.items c.in-Some.last, ap log_depth c.in-Some.ensures.items), within)

pub undo-loop-last-preserved : goal.undo-loop-last-preserved
undo-loop-last-preserved g r c =
    let t = g.T.KeyText.text_of in
    let rest = c.pop.new.self.items in
    let ms = entry_members (document_tree t) c.loop-last.into.entries in
    record {
      done = ap (log_undone t rest) c.undo_one.ensures ∙ sym (undone-last t rest c.in-Some.last ms) ∙ ap (λ l. log_undone t l ms) (sym c.in-Some.ensures.items) ∙ c.loop-last.invariant.done;
      within = omega (arith, c.loop-last.invariant.within, depth-last rest c.in-Some.last, ap log_depth c.in-Some.ensures.items);
    }

pub undo_one-returns-in-Added : goal.undo_one-returns-in-Added
undo_one-returns-in-Added g r c =
    let t = g.T.KeyText.text_of in
    let es = c.args.into.now.entries in
    let ms = entry_members (document_tree t) es in
    popped t (document_tree t) es c.pop.new.self.entries c.pop.result c.pop.ensures.entries c.pop.ensures.none ∙ sym (undone-Added t ms) ∙ ap (λ x. undone_one t x ms) (sym c.in-Added.is)

pub undo_one-returns-in-Some : goal.undo_one-returns-in-Some
undo_one-returns-in-Some g r c =
    let t = g.T.KeyText.text_of in
    let es = c.args.into.now.entries in
    let ms = entry_members (document_tree t) es in
    let k = c.text.result.now in
    let key = c.in-Swapped.key in
    let v = c.in-Swapped.value in
    let old = c.in-Some.child.now in
    let found : Some (document_tree t old) ≡ find_member (t key) ms = ap (option_map (document_tree t)) c.in-Some.ensures.value ∙ lookup-entry_members (document_tree t) k es ∙ ap (λ k. find_member k ms) c.text.ensures in
    entry_members-set_value (document_tree t) k v old es (sym c.in-Some.ensures.value) ∙ ap (λ k. members.put k (document_tree t v) ms) c.text.ensures
    ∙ sym (changed-found (t key) (λ _. document_tree t v) (document_tree t old) ms (sym found)) ∙ sym (undone-Swapped t key v ms) ∙ ap (λ x. undone_one t x ms) (sym c.in-Swapped.is)

pub undo_one-returns-in-Swapped : goal.undo_one-returns-in-Swapped
undo_one-returns-in-Swapped g r c =
    let t = g.T.KeyText.text_of in
    let es = c.args.into.now.entries in
    let ms = entry_members (document_tree t) es in
    let k = c.text.result.now in
    let key = c.in-Swapped.key in
    let v = c.in-Swapped.value in
    let none : None ≡ find_member (t key) ms = ap (option_map (document_tree t)) c.in_default.ensures.value ∙ lookup-entry_members (document_tree t) k es ∙ ap (λ k. find_member k ms) c.text.ensures in
    sym (changed-absent (t key) (λ _. document_tree t v) ms (sym none)) ∙ sym (undone-Swapped t key v ms) ∙ ap (λ x. undone_one t x ms) (sym c.in-Swapped.is)

pub undo_one-returns-in-Some-get_mut : goal.undo_one-returns-in-Some-get_mut
undo_one-returns-in-Some-get_mut g r c =
    let t = g.T.KeyText.text_of in
    let es = c.args.into.now.entries in
    let ms = entry_members (document_tree t) es in
    let k = c.text-in-Within.result.now in
    let key = c.in-Within.key in
    let log = c.in-Within.log in
    let old = c.in-Some-get_mut.child.now in
    let found : Some (document_tree t old) ≡ find_member (t key) ms = ap (option_map (document_tree t)) c.in-Some-get_mut.ensures.value ∙ lookup-entry_members (document_tree t) k es ∙ ap (λ k. find_member k ms) c.text-in-Within.ensures in
    entry_members-set_value (document_tree t) k c.undo_within.new.value old es (sym c.in-Some-get_mut.ensures.value) ∙ (λ j. members.put (c.text-in-Within.ensures j) (c.undo_within.ensures j) ms)
    ∙ sym (changed-found (t key) (in_object (log_undone t log.items)) (document_tree t old) ms (sym found)) ∙ sym (undone-Within t key log ms) ∙ ap (λ x. undone_one t x ms) (sym c.in-Within.is)

pub undo_one-returns : goal.undo_one-returns
undo_one-returns g r c =
    let t = g.T.KeyText.text_of in
    let es = c.args.into.now.entries in
    let ms = entry_members (document_tree t) es in
    let k = c.text-in-Within.result.now in
    let key = c.in-Within.key in
    let log = c.in-Within.log in
    let none : None ≡ find_member (t key) ms = ap (option_map (document_tree t)) c.in_default-get_mut.ensures.value ∙ lookup-entry_members (document_tree t) k es ∙ ap (λ k. find_member k ms) c.text-in-Within.ensures in
    sym (changed-absent (t key) (in_object (log_undone t log.items)) ms (sym none)) ∙ sym (undone-Within t key log ms) ∙ ap (λ x. undone_one t x ms) (sym c.in-Within.is)

pub undo_within-returns-in-Object : goal.undo_within-returns-in-Object
undo_within-returns-in-Object g r c =
    let t = g.T.KeyText.text_of in
    let m = c.deref_mut.result.now in
    let n = c.undo.new.into in
    let b : Box (Map g.row.T.Denot) Global = record c.in-Object.into { value = n } in
    let same : document_tree t c.args.value.now ≡ obj (entry_members (document_tree t) m.entries) =
    (ap (document_tree t) c.in-Object.is ∙ tree-Object t c.in-Object.into) ∙ sym (ap (λ n. obj (entry_members (document_tree t) n.entries)) (c.deref_mut.ensures.value ∙ ap (λ b. b.value) c.in-Object.into-is)) in
    (ap (document_tree t) (let e : _ ≡ Object b = search (rules, the_lemmas) in e) ∙ tree-Object t b) ∙ ap obj c.undo.ensures ∙ ap (in_object (log_undone t c.args.log.items)) (sym same)
