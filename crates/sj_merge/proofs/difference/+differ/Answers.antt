use Rattle.std.proofs.Common.{◌≡◌, false, Some, option_map, sym, ap, ◌∙◌, subst, arith, true≢false}
use Rattle.std.specs.Option.{option_copied}
use Rattle.std.specs.Prelude.{IfOk}
use Rattle.std.proofs.lemmas.Result.{IfOk-weaker}
use Rattle.sj_text_core.specs.Tree.{obj, depth, members_depth}
use Rattle.sj_text_core.specs.Find.{find_member}
use Rattle.sj_text_core.specs.Edits as members
use Rattle.sj_object.specs.Entries.{entries_of}
use Rattle.sj_object.specs.Members.{entry_members}
use Rattle.sj_object.proofs.Shown.{lookup-entry_members, entry_members-put}
use Rattle.sj_document.specs.Document.{document_tree}
use Rattle.sj_document.proofs.Trees.{Map, tree-Object}
use Rattle.sj_merge.specs.MergeDiff.{patch_members}
use Rattle.sj_merge.specs.inner.Change.{IsChange}
use Rattle.sj_merge.specs.declared.difference.Change.TheVariants.{Stays, Impossible, Becomes}
use Rattle.sj_merge.proofs.Told.{is_same}
use Rattle.sj_merge.proofs.Changes.{single_object, single_found, impossible, not_empty, no_object, stays, empty_entries, patch_of}
use Rattle.sj_merge.proofs.Putting.{put_each, told_begin, told_stays, told_impossible, told_becomes}
use Rattle.sj_merge.proofs.difference.+differ.Goals.{change_object-else-is_empty-via-then-is_empty+else-has_members, change_object-else-is_empty-via-else-is_empty}
use Rattle.sj_merge.proofs.difference.+differ.Goals as goal

pub change_object-returns-then-has_members : goal.change_object-returns-then-has_members
change_object-returns-then-has_members g r c =
    let t = g.T.KeyText.text_of in
    let old = option_map (document_tree t) (option_copied c.args.found) in
    let ns = entry_members (document_tree t) c.args.wanted.now.entries in
    let patch = ap (λ r. option_map obj (option_map (λ (m : Map g.row.T.Denot). entry_members (document_tree t) m.entries) r)) (sym c.in-Some.is) ∙ c.in_ok-patch.ensures in
    stays old ns (single_found t c.args.found) (single_object t c.args.wanted.now) (sym c.has_members.ensures ∙ c.if-has_members.true)
    (sym patch ∙ ap (λ es. Some (obj (entry_members (document_tree t) es))) (c.is_empty.ensures.0 c.if-is_empty.true))

pub change_object-returns-in_ok-new-in-Some : goal.change_object-returns-in_ok-new-in-Some
change_object-returns-in_ok-new-in-Some g r c =
    let t = g.T.KeyText.text_of in
    let old = option_map (document_tree t) (option_copied c.args.found) in
    let ns = entry_members (document_tree t) c.args.wanted.now.entries in
    let es = c.in-Some.patch.entries in
    let patch = ap (λ r. option_map obj (option_map (λ (m : Map g.row.T.Denot). entry_members (document_tree t) m.entries) r)) (sym c.in-Some.is) ∙ c.in_ok-patch.ensures in
    let told : is_same old (obj ns) ≡ false = elim c.else-is_empty.branch [
      | change_object-else-is_empty-via-then-is_empty+else-has_members w ↦ no_object old ns (sym w.has_members.ensures ∙ w.if-has_members.false)
      | change_object-else-is_empty-via-else-is_empty w ↦ not_empty old ns (entry_members (document_tree t) es) (single_found t c.args.found) (single_object t c.args.wanted.now) (sym patch)
          (λ e. true≢false (sym (c.is_empty.ensures.1 (empty_entries (document_tree t) es e)) ∙ w.if-is_empty.false))
    ] in
    (told, sym patch ∙ ap Some (sym (tree-Object t c.in_ok-new-in-Some.field-0 ∙ ap (λ m. obj (entry_members (document_tree t) m.entries)) c.in_ok-new-in-Some.ensures.ok)))

pub change_object-returns-in-None : goal.change_object-returns-in-None
change_object-returns-in-None g r c =
    let t = g.T.KeyText.text_of in
    let old = option_map (document_tree t) (option_copied c.args.found) in
    let ns = entry_members (document_tree t) c.args.wanted.now.entries in
    let none = ap (λ r. option_map obj (option_map (λ (m : Map g.row.T.Denot). entry_members (document_tree t) m.entries) r)) (sym c.in-None.is) ∙ c.in_ok-patch.ensures in
    (impossible old ns (single_found t c.args.found) (single_object t c.args.wanted.now) (sym none), sym none)

pub change_value-change_object-requires : goal.change_value-change_object-requires
change_value-change_object-requires g r c κs within =
    let t = g.T.KeyText.text_of in
    (omega (arith, c.decreases, ap depth (ap (document_tree t) c.in-Object.is ∙ tree-Object t c.in-Object.wanted), ap (λ m. members_depth (entry_members (document_tree t) m.entries)) c.deref.ensures), within)

pub change_value-returns-in-Object : goal.change_value-returns-in-Object
change_value-returns-in-Object g r c =
    let t = g.T.KeyText.text_of in
    let wanted = ap (document_tree t) c.in-Object.is ∙ tree-Object t c.in-Object.wanted ∙ ap (λ m. obj (entry_members (document_tree t) m.entries)) (sym c.deref.ensures) in
    subst (λ w. IfOk c.change_object.result (IsChange t (option_map (document_tree t) (option_copied c.args.found)) w)) (sym wanted) c.change_object.ensures

pub patch_from-returns-in-Object : goal.patch_from-returns-in-Object
patch_from-returns-in-Object g r c =
    let t = g.T.KeyText.text_of in
    let ms = entry_members (document_tree t) c.deref.result.now.entries in
    let ns = entry_members (document_tree t) c.args.wanted.now.entries in
    let here = ap (document_tree t) c.in-Object.is ∙ tree-Object t c.in-Object.members ∙ ap (λ m. obj (entry_members (document_tree t) m.entries)) (sym c.deref.ensures) in
    let old = ap (λ o. option_map (document_tree t) (option_copied o)) c.in-Some.is ∙ ap Some here in
    IfOk-weaker c.patch_object.result _ _ (λ r h. patch_of (option_map (document_tree t) (option_copied c.args.found)) ms ns (option_map (λ (m : Map g.row.T.Denot). entry_members (document_tree t) m.entries) r) old h) c.patch_object.ensures

pub patch_object-loop-key-init : goal.patch_object-loop-key-init
patch_object-loop-key-init g r c =
    let t = g.T.KeyText.text_of in
    let ms = entry_members (document_tree t) c.args.members.now.entries in
    let all = ap (entries_of t) c.into_iter-key-iterator.ensures.into_iter_gives ∙ c.iter-key-items.ensures in
    record {
      can = tt;
      ends = tt;
      told = (λ i. option_map (put_each (c.in_ok-patch.ensures i)) (patch_members ms (entry_members (document_tree t) (all i)))) ∙ told_begin ms (entry_members (document_tree t) c.args.wanted.now.entries) (single_object t c.args.members.now) (single_object t c.args.wanted.now);
      within = omega (arith, ap (λ es. members_depth (entry_members (document_tree t) es)) all);
    }

pub patch_object-loop-key-preserved-in-Stays : goal.patch_object-loop-key-preserved-in-Stays
patch_object-loop-key-preserved-in-Stays g r c =
    let t = g.T.KeyText.text_of in
    let key = t c.in-Some.key.now in
    let w = document_tree t c.in-Some.value.now in
    let ms = entry_members (document_tree t) c.args.members.now.entries in
    let done = entry_members (document_tree t) c.loop-key.patch.entries in
    let rest = entry_members (document_tree t) (entries_of t c.next.new.self) in
    let ahead = ap (entries_of t) c.in-Some.ensures.steps in
    let found = ap (option_map (document_tree t)) c.get.ensures ∙ lookup-entry_members (document_tree t) c.text.result.now c.args.members.now.entries ∙ ap (λ k. find_member k ms) c.text.ensures in
    let says = subst (λ o. IsChange t o w Stays) found (subst (IsChange t (option_map (document_tree t) (option_copied c.get.result)) w) c.in-Stays.is c.in_ok-change_value.ensures) in
    record {
      can = tt;
      ends = tt;
      told = sym (told_stays t key w ms rest done says) ∙ ap (λ es. option_map (put_each done) (patch_members ms (entry_members (document_tree t) es))) (sym ahead) ∙ c.loop-key.invariant.told;
      within = omega (arith, c.loop-key.invariant.within, ap (λ es. members_depth (entry_members (document_tree t) es)) ahead);
    }

pub patch_object-returns-in-Impossible : goal.patch_object-returns-in-Impossible
patch_object-returns-in-Impossible g r c =
    let t = g.T.KeyText.text_of in
    let key = t c.in-Some.key.now in
    let w = document_tree t c.in-Some.value.now in
    let ms = entry_members (document_tree t) c.args.members.now.entries in
    let done = entry_members (document_tree t) c.loop-key.patch.entries in
    let rest = entry_members (document_tree t) (entries_of t c.next.new.self) in
    let ahead = ap (entries_of t) c.in-Some.ensures.steps in
    let found = ap (option_map (document_tree t)) c.get.ensures ∙ lookup-entry_members (document_tree t) c.text.result.now c.args.members.now.entries ∙ ap (λ k. find_member k ms) c.text.ensures in
    let says = subst (λ o. IsChange t o w Impossible) found (subst (IsChange t (option_map (document_tree t) (option_copied c.get.result)) w) c.in-Impossible.is c.in_ok-change_value.ensures) in
    sym (told_impossible t key w ms rest done says) ∙ ap (λ es. option_map (put_each done) (patch_members ms (entry_members (document_tree t) es))) (sym ahead) ∙ c.loop-key.invariant.told

pub patch_object-loop-key-preserved : goal.patch_object-loop-key-preserved
patch_object-loop-key-preserved g r c =
    let t = g.T.KeyText.text_of in
    let key = t c.in-Some.key.now in
    let w = document_tree t c.in-Some.value.now in
    let change = c.in-Becomes.change in
    let old = c.loop-key.patch.entries in
    let ms = entry_members (document_tree t) c.args.members.now.entries in
    let done = entry_members (document_tree t) old in
    let rest = entry_members (document_tree t) (entries_of t c.next.new.self) in
    let ahead = ap (entries_of t) c.in-Some.ensures.steps in
    let found = ap (option_map (document_tree t)) c.get.ensures ∙ lookup-entry_members (document_tree t) c.text.result.now c.args.members.now.entries ∙ ap (λ k. find_member k ms) c.text.ensures in
    let says = subst (λ o. IsChange t o w (Becomes change)) found (subst (IsChange t (option_map (document_tree t) (option_copied c.get.result)) w) c.in-Becomes.is c.in_ok-change_value.ensures) in
    let name = c.in_ok-copy-in-Becomes.field-0 in
    record {
      can = tt;
      ends = tt;
      told = ap (λ es. option_map (put_each (entry_members (document_tree t) es)) (patch_members ms rest)) c.in_ok-set-in-Becomes.ensures
          ∙ ap (λ es. option_map (put_each es) (patch_members ms rest)) (entry_members-put (document_tree t) (name, t name) change old)
          ∙ ap (λ k. option_map (put_each (members.put k (document_tree t change) done)) (patch_members ms rest)) c.in_ok-copy-in-Becomes.ensures
          ∙ sym (told_becomes t key w ms rest done change says) ∙ ap (λ es. option_map (put_each done) (patch_members ms (entry_members (document_tree t) es))) (sym ahead) ∙ c.loop-key.invariant.told;
      within = omega (arith, c.loop-key.invariant.within, ap (λ es. members_depth (entry_members (document_tree t) es)) ahead);
    }
