use Rattle.std.proofs.Common.{◌≡◌, ◌∷◌, rules, Box, Global, Some, None, option_map, sym, ap, ◌∙◌, arith}
use Rattle.std.specs.Vec.Iter.{into_iter_items}
use Rattle.sj_text_core.specs.Tree.{obj}
use Rattle.sj_text_core.specs.Find.{find_member}
use Rattle.sj_text_core.specs.Edits as members
use Rattle.sj_object.specs.Members.{entry_members}
use Rattle.sj_object.proofs.Shown.{lookup-entry_members, entry_members-set_value, entry_members-cut}
use Rattle.sj_document.specs.Document.{document_tree}
use Rattle.sj_document.specs.declared.value.Document.{Object, the_lemmas}
use Rattle.sj_document.proofs.Trees.{Map, tree-Object}
use Rattle.sj_merge.specs.inner.Log.{in_object, finished_one, finished}
use Rattle.sj_merge.proofs.Passing.{changed-found, changed-absent}
use Rattle.sj_merge.proofs.Logs.{depth_of, log_depth, depth-Within, finished-Goes, finished-Within}
use Rattle.sj_merge.proofs.in_place.+finish.Goals as goal

pub finish-finish_one-requires : goal.finish-finish_one-requires
finish-finish_one-requires g r c κs within =
    let ahead : into_iter_items c.loop-logged.logged-iterator ≡ c.in-Some.logged ∷ into_iter_items c.next.new.self = c.in-Some.ensures.steps.0 in
    (omega (arith, c.decreases, c.loop-logged.invariant.within, ap log_depth ahead), within)

pub finish-loop-logged-preserved : goal.finish-loop-logged-preserved
finish-loop-logged-preserved g r c =
    let t = g.T.KeyText.text_of in
    let ms = entry_members (document_tree t) c.loop-logged.into.entries in
    let ahead : into_iter_items c.loop-logged.logged-iterator ≡ c.in-Some.logged ∷ into_iter_items c.next.new.self = c.in-Some.ensures.steps.0 in
    record {
      done = ap (finished t (into_iter_items c.next.new.self)) c.finish_one.ensures ∙ ap (λ l. finished t l ms) (sym ahead) ∙ c.loop-logged.invariant.done;
      within = omega (arith, c.loop-logged.invariant.within, ap log_depth ahead);
    }

pub finish_one-returns-in-Goes : goal.finish_one-returns-in-Goes
finish_one-returns-in-Goes g r c =
    let t = g.T.KeyText.text_of in
    let es = c.args.into.now.entries in
    let ms = entry_members (document_tree t) es in
    ap (entry_members (document_tree t)) c.remove.ensures.entries ∙ entry_members-cut (document_tree t) c.text.result.now es ∙ ap (λ k. members.cut k ms) c.text.ensures
    ∙ sym (finished-Goes t c.in-Goes.key ms) ∙ ap (λ x. finished_one t x ms) (sym c.in-Goes.is)

pub finish_one-finish_within-requires : goal.finish_one-finish_within-requires
finish_one-finish_within-requires g r c κs within = (omega (arith, c.decreases, depth-Within c.in-Within.key c.in-Within.log, ap depth_of c.in-Within.is), within)

pub finish_one-returns-in-Some : goal.finish_one-returns-in-Some
finish_one-returns-in-Some g r c =
    let t = g.T.KeyText.text_of in
    let es = c.args.into.now.entries in
    let ms = entry_members (document_tree t) es in
    let k = c.text-in-Within.result.now in
    let key = c.in-Within.key in
    let log = c.in-Within.log in
    let old = c.in-Some.child.now in
    let found : Some (document_tree t old) ≡ find_member (t key) ms = ap (option_map (document_tree t)) c.in-Some.ensures.value ∙ lookup-entry_members (document_tree t) k es ∙ ap (λ k. find_member k ms) c.text-in-Within.ensures in
    entry_members-set_value (document_tree t) k c.finish_within.new.value old es (sym c.in-Some.ensures.value) ∙ (λ j. members.put (c.text-in-Within.ensures j) (c.finish_within.ensures j) ms)
    ∙ sym (changed-found (t key) (in_object (finished t log.items)) (document_tree t old) ms (sym found)) ∙ sym (finished-Within t key log ms) ∙ ap (λ x. finished_one t x ms) (sym c.in-Within.is)

pub finish_one-returns : goal.finish_one-returns
finish_one-returns g r c =
    let t = g.T.KeyText.text_of in
    let es = c.args.into.now.entries in
    let ms = entry_members (document_tree t) es in
    let k = c.text-in-Within.result.now in
    let key = c.in-Within.key in
    let log = c.in-Within.log in
    let none : None ≡ find_member (t key) ms = ap (option_map (document_tree t)) c.in_default.ensures.value ∙ lookup-entry_members (document_tree t) k es ∙ ap (λ k. find_member k ms) c.text-in-Within.ensures in
    sym (changed-absent (t key) (in_object (finished t log.items)) ms (sym none)) ∙ sym (finished-Within t key log ms) ∙ ap (λ x. finished_one t x ms) (sym c.in-Within.is)

pub finish_within-returns-in-Object : goal.finish_within-returns-in-Object
finish_within-returns-in-Object g r c =
    let t = g.T.KeyText.text_of in
    let m = c.deref_mut.result.now in
    let n = c.finish.new.into in
    let b : Box (Map g.row.T.Denot) Global = record c.in-Object.into { value = n } in
    let same : document_tree t c.args.value.now ≡ obj (entry_members (document_tree t) m.entries) =
    (ap (document_tree t) c.in-Object.is ∙ tree-Object t c.in-Object.into) ∙ sym (ap (λ n. obj (entry_members (document_tree t) n.entries)) (c.deref_mut.ensures.value ∙ ap (λ b. b.value) c.in-Object.into-is)) in
    (ap (document_tree t) (let e : _ ≡ Object b = search (rules, the_lemmas) in e) ∙ tree-Object t b) ∙ ap obj c.finish.ensures ∙ ap (in_object (finished t c.args.log.items)) (sym same)
