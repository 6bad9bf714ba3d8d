use Rattle.std.proofs.Common.{rules, ◌<◌, ◌^◌, [], ◌∷◌, map, length, refl, sym, ap, ◌∙◌, arith}
use Rattle.std.proofs.lemmas.Result.{on_ok_weaker}
use Rattle.sj_text_core.specs.Tree.{obj}
use Rattle.sj_text_core.proofs.Equality.{same-refl}
use Rattle.sj_object.specs.Entries.{entries_of}
use Rattle.sj_object.specs.Members.{entry_members}
use Rattle.sj_document.specs.Document.{document_tree}
use Rattle.sj_document.proofs.Trees.{tree-Object}
use Rattle.sj_document.proofs.Compared.{each_there, near_there}
use Rattle.sj_patch.specs.Patch.{remove}
use Rattle.sj_patch.specs.inner.Noted.{token_meant, array}
use Rattle.sj_patch.proofs.Noting.{single-array, notes-as, notes-nothing, noted-there, noted-here, notes-there}
use Rattle.sj_patch.proofs.NotedItems.{between-first, notes-pair, notes-arrays}
use Rattle.sj_patch.proofs.NotedMembers.{pairs, left, object-pairs, single-pairs, pair-found, pair-absent, compares-none, compares-found, compares-gone, compares-all}
use Rattle.sj_patch.proofs.differences.Differences.+compare.Goals as goal

pub compare-returns-in-Object-to-clause-notes : goal.compare-returns-in-Object-to-clause-notes
compare-returns-in-Object-to-clause-notes g r c =
    let t = g.T.KeyText.text_of in
    let mine = ap (document_tree t) c.in-Object.is ∙ tree-Object t c.in-Object.old ∙ ap (λ m. obj (entry_members (document_tree t) m.entries)) (sym c.deref.ensures) in
    let other = ap (document_tree t) c.in-Object-to.is ∙ tree-Object t c.in-Object-to.new ∙ ap (λ m. obj (entry_members (document_tree t) m.entries)) (sym c.deref-in-Object-to.ensures) in
    rw (mine, other) c.compare_members.ensures.notes

pub compare_members-loop-key-init : goal.compare_members-loop-key-init
compare_members-loop-key-init g r c =
    let t = g.T.KeyText.text_of in
    let f = document_tree t in
    let all = ap (entries_of t) c.into_iter-key-iterator.ensures.into_iter_gives ∙ c.iter-key-items.ensures in
    record {
      can = tt;
      ends = tt;
      near = rw c.iter-others.ensures (each_there c.args.new.now.entries c.args.new.now.distinct);
      place = refl;
      compares = rw (ap (pairs f) all) (compares-none _ _ _ _ (single-pairs t c.args.old.now));
    }

pub compare_members-loop-key-preserved-in-Continue-1 : goal.compare_members-loop-key-preserved-in-Continue-1
compare_members-loop-key-preserved-in-Continue-1 g r c =
    let t = g.T.KeyText.text_of in
    let f = document_tree t in
    let i = c.loop-key.invariant in
    let n = c.in_ok-compare_at-in-Some-value_near.ensures in
    record {
      can = tt;
      ends = tt;
      near = (near_there t c.args.new.now.entries c.loop-key.others c.next-in-loop-key.new.self c.next-in-loop-key.result i.near c.next-in-loop-key.ensures.steps).1;
      place = n.place ∙ i.place;
      compares = compares-found _ _ _ _ _ _ _ _ (t c.in-Some.key.now) (f c.in-Some.value.now) i.compares (ap (left f t) c.in-Some.ensures.steps) (f c.in-Some-value_near.other.now)
          (pair-found f (t c.in-Some.key.now) c.text-text.result.now c.args.new.now.entries c.in-Some-value_near.other.now c.text-text.ensures c.in-Some-value_near.ensures)
          (notes-there _ _ _ _ _ _ _ _ _ (ap (map token_meant) i.place) c.text-text.ensures n.notes);
    }

pub compare_members-loop-key-preserved : goal.compare_members-loop-key-preserved
compare_members-loop-key-preserved g r c =
    let t = g.T.KeyText.text_of in
    let f = document_tree t in
    let i = c.loop-key.invariant in
    let n = c.in_ok-remove-in-None-value_near.ensures in
    record {
      can = tt;
      ends = tt;
      near = (near_there t c.args.new.now.entries c.loop-key.others c.next-in-loop-key.new.self c.next-in-loop-key.result i.near c.next-in-loop-key.ensures.steps).1;
      place = n.place ∙ i.place;
      compares = compares-gone _ _ _ _ _ _ _ _ (t c.in-Some.key.now) (f c.in-Some.value.now) i.compares (ap (left f t) c.in-Some.ensures.steps)
          (pair-absent f (t c.in-Some.key.now) c.text-text.result.now c.args.new.now.entries c.text-text.ensures c.in-None-value_near.ensures)
          (noted-there _ _ _ _ (λ k. remove (k ∷ []) ∷ []) _ _ (ap (map token_meant) i.place) c.text-text.ensures n.noted);
    }

pub compare_members-returns-clause-notes : goal.compare_members-returns-clause-notes
compare_members-returns-clause-notes g r c =
    let t = g.T.KeyText.text_of in
    let f = document_tree t in
    let i = c.loop-key.invariant in
    let new = object-pairs f c.args.new.now.entries in
    on_ok_weaker c.add_members.result
    (λ n. notes-as _ _ _ _ _ _ _ _ _ (object-pairs f c.args.old.now.entries) new new
    (compares-all _ _ _ _ _ _ _ i.compares (ap (left f t) c.in-None.ensures.steps.0) (single-pairs t c.args.new.now) (noted-here _ _ _ _ _ (ap (map token_meant) i.place) n)))
    c.add_members.ensures.noted

pub compare_pairs-loop-i-init : goal.compare_pairs-loop-i-init
compare_pairs-loop-i-init g r c =
    let t = g.T.KeyText.text_of in
    let x = single-array t c.args.old.now in
    record {
      place = refl;
      notes = rw (between-first c.args.first (map (document_tree t) c.args.old.now) (map (document_tree t) c.args.new.now)) (notes-nothing _ _ _ _ _ x x (same-refl (array (map (document_tree t) c.args.old.now))));
    }

pub compare_pairs-loop-i-preserved : goal.compare_pairs-loop-i-preserved
compare_pairs-loop-i-preserved g r c =
    let t = g.T.KeyText.text_of in
    let i = c.loop-i.invariant in
    let n = c.in_ok-compare_at.ensures in
    let in_old : c.loop-i.i < length c.args.old.now = omega (arith, c.loop-i-test.true, c.requires.in_old) in
    let in_new : c.loop-i.i < length c.args.new.now = omega (arith, c.loop-i-test.true, c.requires.in_new) in
    let fits : c.loop-i.i < 2 ^ 64 = search rules in
    record {
      place = n.place ∙ i.place;
      notes = notes-pair (document_tree t) c.args.old.now c.args.new.now c.args.first c.loop-i.i c.index-old-i.result c.index-new-i.result in_old in_new c.index-old-i.is c.index-new-i.is c.loop-i.auto.i fits _ _ _ _ i.notes (notes-there _ _ _ _ _ _ _ _ _ (ap (map token_meant) i.place) refl n.notes);
    }

pub compare_items-returns-clause-notes : goal.compare_items-returns-clause-notes
compare_items-returns-clause-notes g r c =
    let t = g.T.KeyText.text_of in
    let few : length c.args.old.now < 2 ^ 64 = search rules in
    let also : length c.args.new.now < 2 ^ 64 = search rules in
    let front = c.same_from_the_front-first.ensures in
    let back = c.same_from_the_back-last.ensures in
    let pairs = c.in_ok-compare_pairs.ensures in
    let gone = c.in_ok-remove_items.ensures in
    on_ok_weaker c.add_items.result
    (λ n. notes-arrays (document_tree t) c.args.old.now c.args.new.now c.same_from_the_front-first.result c.same_from_the_back-last.result c.min-end.result back.in_old back.in_new c.min-end.ensures few also _ _ _ _ _ pairs.notes
    (noted-here _ _ _ _ _ (ap (map token_meant) pairs.place) gone.noted) (noted-here _ _ _ _ _ (ap (map token_meant) (gone.place ∙ pairs.place)) n)
    front.same back.same (single-array t c.args.new.now) c.if-old-new.false)
    c.add_items.ensures.noted
