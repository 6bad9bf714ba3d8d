use Rattle.std.proofs.Common.{[], ◌∷◌, map, refl, ap, ◌∙◌}
use Rattle.sj_object.specs.Entries.{entries_of}
use Rattle.sj_document.specs.Document.{document_tree}
use Rattle.sj_document.proofs.Compared.{each_there, near_there}
use Rattle.sj_patch.specs.Patch.{add}
use Rattle.sj_patch.specs.inner.Noted.{token_meant}
use Rattle.sj_patch.proofs.NotedMembers.{pairs, left, pair-found, pair-absent, adds-none, adds-new, adds-known}
use Rattle.sj_patch.proofs.Noting.{noted-there}
use Rattle.sj_patch.proofs.differences.Differences.add_members.Goals as goal

pub loop-key-init : goal.loop-key-init
loop-key-init g c =
    let t = g.T.KeyText.text_of in
    let f = document_tree t in
    let all = ap (entries_of t) c.into_iter-key-iterator.ensures.into_iter_gives ∙ c.iter-key-items.ensures in
    record {
      can = tt;
      ends = tt;
      near = rw c.iter-others.ensures (each_there c.args.old.now.entries c.args.old.now.distinct);
      place = refl;
      adds = rw (ap (pairs f) all) (adds-none _ _ _ _);
    }

pub loop-key-preserved-in-Some-value_near : goal.loop-key-preserved-in-Some-value_near
loop-key-preserved-in-Some-value_near g c =
    let t = g.T.KeyText.text_of in
    let f = document_tree t in
    let i = c.loop-key.invariant in
    record {
      can = tt;
      ends = tt;
      near = (near_there t c.args.old.now.entries c.loop-key.others c.next-in-loop-key.new.self c.next-in-loop-key.result i.near c.next-in-loop-key.ensures.steps).1;
      place = i.place;
      adds = adds-known _ _ _ _ _ _ _ (t c.in-Some.key.now) (f c.in-Some.value.now) i.adds (ap (left f t) c.in-Some.ensures.steps) (f c.in-Some-value_near.field-0.now)
          (pair-found f (t c.in-Some.key.now) c.text-text.result.now c.args.old.now.entries c.in-Some-value_near.field-0.now c.text-text.ensures c.in-Some-value_near.ensures);
    }

pub loop-key-preserved : goal.loop-key-preserved
loop-key-preserved g c =
    let t = g.T.KeyText.text_of in
    let f = document_tree t in
    let i = c.loop-key.invariant in
    record {
      can = tt;
      ends = tt;
      near = (near_there t c.args.old.now.entries c.loop-key.others c.next-in-loop-key.new.self c.next-in-loop-key.result i.near c.next-in-loop-key.ensures.steps).1;
      place = c.in_ok-add-in-None-value_near.ensures.place ∙ i.place;
      adds = adds-new _ _ _ _ _ _ _ (t c.in-Some.key.now) (f c.in-Some.value.now) i.adds (ap (left f t) c.in-Some.ensures.steps) _
          (pair-absent f (t c.in-Some.key.now) c.text-text.result.now c.args.old.now.entries c.text-text.ensures c.in-None-value_near.ensures)
          (noted-there _ _ _ _ (λ k. add (k ∷ []) (f c.in-Some.value.now) ∷ []) _ _ (ap (map token_meant) i.place) c.text-text.ensures c.in_ok-add-in-None-value_near.ensures.noted);
    }
