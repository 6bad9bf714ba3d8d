use Rattle.std.proofs.Common.{◌<◌, length, map, refl, sym, ap, ◌∙◌, arith, bytes_eq}
use Rattle.sj_text_core.specs.Tree.{list, obj, depth, members_depth, items_depth, items_from}
use Rattle.sj_object.specs.Entries.{entries_of}
use Rattle.sj_object.specs.Members.{entry_members}
use Rattle.sj_document.specs.Document.{document_tree}
use Rattle.sj_document.proofs.Trees.{tree-Static, tree-Array, tree-Object}
use Rattle.sj_document.proofs.Sorts.{tree-String, same_text}
use Rattle.sj_document.proofs.Walks.{item_within}
use Rattle.sj_document.proofs.Compared.{lens_same, taken, joined, at_end, next_same, next_there, next_found, found_on, maps_same, maps_each, maps_len, each_there, near_there}
use Rattle.sj_tape.proofs.Compared.{allowed, denied}
use Rattle.sj_document.proofs.value.cmp.documents.+same.Goals as goal

pub same_items-returns-then-items-others : goal.same_items-returns-then-items-others
same_items-returns-then-items-others g r c =
    let t = document_tree g.T.KeyText.text_of in
    let u = document_tree g.U.KeyText.text_of in
    (λ f. absurd (cc), λ h. absurd (c.if-items-others.true (ap length c.as_slice-items.ensures.value ∙ lens_same t u c.args.left.now.items c.args.right.now.items h ∙ sym (ap length c.as_slice-others.ensures.value))))

pub same_items-loop-i-init : goal.same_items-loop-i-init
same_items-loop-i-init g r c = record {
  lens = c.if-items-others.false;
  on = λ h. h;
  off = λ h. h;
}

pub same_items-same_values-requires : goal.same_items-same_values-requires
same_items-same_values-requires g r c κs within =
    let t = g.T.KeyText.text_of in
    let below = item_within t c.as_slice-items.result.now c.loop-i.i c.index-items-i.result c.loop-i-test.true c.index-items-i.is in
    (omega (arith, c.decreases, below, ap (λ vs. items_depth (items_from (map (document_tree t) vs))) c.as_slice-items.ensures.value), within)

pub same_items-returns-then-not-same_values : goal.same_items-returns-then-not-same_values
same_items-returns-then-not-same_values g r c =
    let t = document_tree g.T.KeyText.text_of in
    let u = document_tree g.U.KeyText.text_of in
    let i = c.loop-i.invariant in (
      λ f. absurd (cc),
      λ h. absurd (denied c.same_values.result _ c.same_values.ensures c.if-not-same_values.true
          (taken t u c.loop-i.i _ _ c.index-items-i.result c.index-others-i.result c.loop-i-test.true (omega (arith, c.loop-i-test.true, i.lens)) c.index-items-i.is c.index-others-i.is
          (i.off (rw (c.as_slice-items.ensures.value, c.as_slice-others.ensures.value) h))).0),
    )

pub same_items-loop-i-preserved : goal.same_items-loop-i-preserved
same_items-loop-i-preserved g r c =
    let t = document_tree g.T.KeyText.text_of in
    let u = document_tree g.U.KeyText.text_of in
    let i = c.loop-i.invariant in
    let fits : c.loop-i.i < length c.as_slice-others.result.now = omega (arith, c.loop-i-test.true, i.lens) in
    record {
      lens = i.lens;
      on = λ h. i.on (joined t u c.loop-i.i _ _ c.index-items-i.result c.index-others-i.result c.loop-i-test.true fits c.index-items-i.is c.index-others-i.is (allowed c.same_values.result _ c.same_values.ensures c.if-not-same_values.false, h));
      off = λ h. (taken t u c.loop-i.i _ _ c.index-items-i.result c.index-others-i.result c.loop-i-test.true fits c.index-items-i.is c.index-others-i.is (i.off h)).1;
    }

pub same_items-returns : goal.same_items-returns
same_items-returns g r c =
    let t = document_tree g.T.KeyText.text_of in
    let u = document_tree g.U.KeyText.text_of in
    let all = c.loop-i.invariant.on (at_end t u c.loop-i.i _ _ c.loop-i-test.false c.loop-i.invariant.lens) in
    (λ _. rw (c.as_slice-items.ensures.value, c.as_slice-others.ensures.value) at all, λ h. refl)

pub same_members-returns-then-len : goal.same_members-returns-then-len
same_members-returns-then-len g r c = (
  λ f. absurd (cc),
  λ h. absurd (c.if-len.true (c.len.ensures
      ∙ maps_len (document_tree g.T.KeyText.text_of) (document_tree g.U.KeyText.text_of) c.args.left.now.entries c.args.right.now.entries c.args.left.now.distinct c.args.right.now.distinct h ∙ sym c.len-2.ensures)),
)

pub same_members-loop-key-init : goal.same_members-loop-key-init
same_members-loop-key-init g r c =
    let t = g.T.KeyText.text_of in
    let u = g.U.KeyText.text_of in
    let all = ap (entries_of t) c.into_iter-key-iterator.ensures.into_iter_gives ∙ c.iter-key-items.ensures in
    record {
      can = tt;
      ends = tt;
      on = λ h. rw (sym all) h;
      off = λ h. rw all h;
      near = rw c.iter-others.ensures (each_there c.args.right.now.entries c.args.right.now.distinct);
      within = omega (arith, ap (λ es. members_depth (entry_members (document_tree t) es)) all);
    }

pub same_members-value_near-requires : goal.same_members-value_near-requires
same_members-value_near-requires g r c =
    (near_there g.U.KeyText.text_of c.args.right.now.entries c.loop-key.others c.next-in-loop-key.new.self c.next-in-loop-key.result c.loop-key.invariant.near c.next-in-loop-key.ensures.steps).0

pub same_members-same_values-requires : goal.same_members-same_values-requires
same_members-same_values-requires g r c κs within =
    let t = g.T.KeyText.text_of in
    (omega (arith, c.decreases, c.loop-key.invariant.within, ap (λ es. members_depth (entry_members (document_tree t) es)) (ap (entries_of t) c.in-Some.ensures.steps)), within)

pub same_members-returns-then-not-same_values : goal.same_members-returns-then-not-same_values
same_members-returns-then-not-same_values g r c =
    let t = g.T.KeyText.text_of in
    let u = g.U.KeyText.text_of in (
      λ f. absurd (cc),
      λ h. absurd (denied c.same_values.result _ c.same_values.ensures c.if-not-same_values.true
          (next_same (document_tree t) (document_tree u) t c.args.right.now.entries c.loop-key.key-iterator c.next.new.self c.in-Some.key.now c.in-Some.value.now c.in-Some.ensures.steps
          c.text.result.now c.in-Some-value_near.other.now c.text.ensures c.in-Some-value_near.ensures
          (c.loop-key.invariant.off (maps_each (document_tree t) (document_tree u) c.args.left.now.entries c.args.right.now.entries c.args.left.now.distinct h)))),
    )

pub same_members-loop-key-preserved : goal.same_members-loop-key-preserved
same_members-loop-key-preserved g r c =
    let t = g.T.KeyText.text_of in
    let u = g.U.KeyText.text_of in
    let i = c.loop-key.invariant in
    record {
      can = tt;
      ends = tt;
      on = λ h. i.on (found_on (document_tree t) (document_tree u) t c.args.right.now.entries c.loop-key.key-iterator c.next.new.self c.in-Some.key.now c.in-Some.value.now c.in-Some.ensures.steps
          c.text.result.now c.in-Some-value_near.other.now c.text.ensures c.in-Some-value_near.ensures (allowed c.same_values.result _ c.same_values.ensures c.if-not-same_values.false) h);
      off = λ h. (next_found (document_tree t) (document_tree u) t c.args.right.now.entries c.loop-key.key-iterator c.next.new.self c.in-Some.key.now c.in-Some.value.now c.in-Some.ensures.steps (i.off h)).1;
      near = (near_there u c.args.right.now.entries c.loop-key.others c.next-in-loop-key.new.self c.next-in-loop-key.result i.near c.next-in-loop-key.ensures.steps).1;
      within = omega (arith, i.within, ap (λ es. members_depth (entry_members (document_tree t) es)) (ap (entries_of t) c.in-Some.ensures.steps));
    }

pub same_members-returns-in-None-value_near : goal.same_members-returns-in-None-value_near
same_members-returns-in-None-value_near g r c =
    let t = g.T.KeyText.text_of in
    let u = g.U.KeyText.text_of in (
      λ f. absurd (cc),
      λ h. absurd (next_there (document_tree t) (document_tree u) t c.args.right.now.entries c.loop-key.key-iterator c.next.new.self c.in-Some.key.now c.in-Some.value.now c.in-Some.ensures.steps
          c.text.result.now c.text.ensures c.in-None-value_near.ensures
          (c.loop-key.invariant.off (maps_each (document_tree t) (document_tree u) c.args.left.now.entries c.args.right.now.entries c.args.left.now.distinct h))),
    )

pub same_members-returns : goal.same_members-returns
same_members-returns g r c =
    let t = g.T.KeyText.text_of in
    let u = g.U.KeyText.text_of in
    let none = c.in-None.ensures.steps.0 in (
      λ _. maps_same (document_tree t) (document_tree u) c.args.left.now.entries c.args.right.now.entries c.args.left.now.distinct (sym c.len.ensures ∙ c.if-len.false ∙ c.len-2.ensures)
          (c.loop-key.invariant.on (rw none tt)),
      λ h. refl,
    )

pub same_values-same_members-requires : goal.same_values-same_members-requires
same_values-same_members-requires g r c κs within =
    let t = g.T.KeyText.text_of in
    (omega (arith, c.decreases, ap depth (ap (document_tree t) c.in-Object.is ∙ tree-Object t c.in-Object.members), ap (λ m. members_depth (entry_members (document_tree t) m.entries)) c.deref-in-Object-right.ensures), within)

pub same_values-returns-in-Object-right : goal.same_values-returns-in-Object-right
same_values-returns-in-Object-right g r c =
    let t = g.T.KeyText.text_of in
    let u = g.U.KeyText.text_of in
    let mine = ap (document_tree t) c.in-Object.is ∙ tree-Object t c.in-Object.members ∙ ap (λ m. obj (entry_members (document_tree t) m.entries)) (sym c.deref-in-Object-right.ensures) in
    let other = ap (document_tree u) c.in-Object-right.is ∙ tree-Object u c.in-Object-right.others ∙ ap (λ m. obj (entry_members (document_tree u) m.entries)) (sym c.deref-in-Object-right-2.ensures) in
    rw (mine, other) c.same_members.ensures

pub same_values-same_items-requires : goal.same_values-same_items-requires
same_values-same_items-requires g r c κs within =
    let t = g.T.KeyText.text_of in
    (omega (arith, c.decreases, ap depth (ap (document_tree t) c.in-Array.is ∙ tree-Array t c.in-Array.items), ap (λ v. items_depth (items_from (map (document_tree t) v.items))) c.deref.ensures), within)

pub same_values-returns-in-Static-right : goal.same_values-returns-in-Static-right
same_values-returns-in-Static-right g r c =
    let t = g.T.KeyText.text_of in
    let u = g.U.KeyText.text_of in
    let mine = ap (document_tree t) c.in-Static.is ∙ tree-Static t c.in-Static.scalar in
    let other = ap (document_tree u) c.in-Static-right.is ∙ tree-Static u c.in-Static-right.other in
    rw (mine, other) c.eq.ensures.same

pub same_values-returns-in-String-right : goal.same_values-returns-in-String-right
same_values-returns-in-String-right g r c =
    let t = g.T.KeyText.text_of in
    let u = g.U.KeyText.text_of in
    let mine = ap (document_tree t) c.in-String.is ∙ tree-String t c.in-String.text in
    let other = ap (document_tree u) c.in-String-right.is ∙ tree-String u c.in-String-right.other in
    rw (mine, other) (same_text (t c.in-String.text) (u c.in-String-right.other) _ (c.are_same_texts.ensures ∙ (λ i. bytes_eq (c.text.ensures i) (c.text-in-String-right.ensures i))))

pub same_values-returns-in-Array-right : goal.same_values-returns-in-Array-right
same_values-returns-in-Array-right g r c =
    let t = g.T.KeyText.text_of in
    let u = g.U.KeyText.text_of in
    let mine = ap (document_tree t) c.in-Array.is ∙ tree-Array t c.in-Array.items ∙ ap (λ v. list (items_from (map (document_tree t) v.items))) (sym c.deref.ensures) in
    let other = ap (document_tree u) c.in-Array-right.is ∙ tree-Array u c.in-Array-right.others ∙ ap (λ v. list (items_from (map (document_tree u) v.items))) (sym c.deref-in-Array-right.ensures) in
    rw (mine, other) c.same_items.ensures
