use Rattle.std.proofs.Common.{◌≡◌, ◌+◌, ◌<◌, ◌^◌, ◌++◌, ◌∷◌, [], ℕ, List, length, drop, arith, sym, ap, ◌∙◌, subst, suc, add-one, ◌≤◌}
use Rattle.std.specs.List.{remove}
use Rattle.std.proofs.lemmas.List.{length-drop}
use Rattle.std.proofs.lemmas.List.Edits.{length-remove}
use Rattle.sj_object.specs.Index.{IsTable, hashes_beside}
use Rattle.sj_object.specs.declared.map.index.Table.{Table}
use Rattle.sj_object.specs.Holes.{raised_by, AreHoles, without, IsChained}
use Rattle.sj_object.specs.inner.Holes.{with_hole}
use Rattle.sj_object.proofs.Chains.{drop-remove, refilled}
use Rattle.sj_object.proofs.Holes.{AreHoles-any, AreHoles-with, raised_by-last, raised_by-with, raised_by-within, raised_by_ge, without-last, without-with, length-with_hole}
use Rattle.sj_object.proofs.Chained.{IsChained-same}
use Rattle.sj_object.proofs.Tables.{length-beside}
use Rattle.sj_object.proofs.map.index.Table.leave_hole.Goals as goal

pub pass_over-hole-requires-clause-holes : goal.pass_over-hole-requires-clause-holes
pass_over-hole-requires-clause-holes c =
    let t = c.args.self.now in
    subst (λ (p : List ℕ × List ℕ). AreHoles 0 p.0 (length p.1)) (λ j. (sym c.deref.ensures.value j, sym c.deref-2.ensures.value j)) (AreHoles-any t.gone t.holes.items (length t.hashes.items) c.requires.table.holes)

-- the holes with the place of the member that left, which pass_over answers
module _ (t : Table) (h : IsTable t) (q s : ℕ) (qs : List ℕ) (e : qs ≡ t.holes.items) (w : q < length (hashes_beside t)) (y : s + 1 ≡ raised_by qs (q + 1)) where
  place : suc s ≡ raised_by t.holes.items (suc q)
  place = sym (add-one s) ∙ y ∙ ap (raised_by qs) (add-one q) ∙ ap (λ rs. raised_by rs (suc q)) e

  within : s < length t.hashes.items
  within = omega (arith, place, raised_by-within t.gone t.holes.items (length t.hashes.items) (length (hashes_beside t)) (suc q) h.holes (length-beside t h) (omega (arith, w)))

  left : without (with_hole s t.holes.items) t.hashes.items ≡ remove (hashes_beside t) q
  left = without-with q t.gone t.holes.items (length t.hashes.items) s t.hashes.items h.holes place

  are_holes : t.gone ≤ q → AreHoles t.gone (with_hole s t.holes.items) (length t.hashes.items)
  are_holes l = AreHoles-with q t.gone t.holes.items (length t.hashes.items) s h.holes place (omega (arith, l, place, raised_by_ge t.holes.items (suc q))) within

  chained : (hs links heads : List ℕ) → hs ≡ t.hashes.items → IsChained (2 ^ t.bits) (qs ++ q ∷ []) hs links heads → IsChained (2 ^ t.bits) (with_hole s t.holes.items) t.hashes.items links heads
  chained hs links heads z k =
      let c = subst (λ (p : List ℕ × List ℕ). IsChained (2 ^ t.bits) (p.0 ++ q ∷ []) p.1 links heads) (λ j. (e j, z j)) k in
      IsChained-same (2 ^ t.bits) (t.holes.items ++ q ∷ []) (with_hole s t.holes.items) t.hashes.items links heads
      (λ p. raised_by-with q t.gone t.holes.items (length t.hashes.items) s p h.holes place ∙ sym (raised_by-last q t.holes.items p))
      (left ∙ sym (without-last q t.holes.items t.hashes.items)) c

pub returns-clause-hashes : goal.returns-clause-hashes
returns-clause-hashes c =
    let t = c.args.self.now in
    let q = t.gone + c.args.position in
    let w : q < length (hashes_beside t) = omega (arith, c.requires.within, length-drop t.gone (hashes_beside t), c.requires.table.gone) in
    ap (λ qs. drop t.gone (without qs t.hashes.items)) c.put_hole.ensures.holes ∙ ap (drop t.gone) (left t c.requires.table q c.pass_over-hole.result c.deref.result.now c.deref.ensures.value w c.pass_over-hole.ensures.hole) ∙ drop-remove (hashes_beside t) t.gone c.args.position c.requires.table.gone

pub returns-clause-table : goal.returns-clause-table
returns-clause-table c =
    let t = c.args.self.now in
    let h = c.requires.table in
    let q = t.gone + c.args.position in
    let s = c.pass_over-hole.result in
    let v = length-beside t h in
    let w : q < length (hashes_beside t) = omega (arith, c.requires.within, length-drop t.gone (hashes_beside t), h.gone) in
    let y = c.pass_over-hole.ensures.hole in
    let o = c.deref.ensures.value in
    let f = left t h q s c.deref.result.now o w y in
    let e : c.put_hole.new.holes.items ≡ with_hole s t.holes.items = c.put_hole.ensures.holes in
    let k : without c.put_hole.new.holes.items t.hashes.items ≡ remove (hashes_beside t) q = ap (λ qs. without qs t.hashes.items) e ∙ f in
    let z : length (remove (hashes_beside t) q) + 1 ≡ length (hashes_beside t) = length-remove (hashes_beside t) q w in
    let ls = c.pass_over-hole.new.links in
    let hs = c.pass_over-hole.new.heads in
    let x = refilled t.links.len ls t.links.items (omega (arith, c.pass_over-hole.auto.links, c.deref_mut.ensures.len)) in
    let r = refilled t.heads.len hs t.heads.items (omega (arith, c.pass_over-hole.auto.heads, c.deref_mut-2.ensures.len)) in
    let u : length hs ≡ length t.heads.items = omega (arith, c.pass_over-hole.auto.heads, ap length c.deref_mut-2.ensures.value) in
    let more = length-with_hole s t.holes.items in
    record {
      bits = h.bits;
      some = omega (arith, h.some, u, ap length r);
      most = (omega (arith, c.requires.room, ap length e, more), omega (arith, h.most.1, c.put_hole.ensures.capacity));
      holes = subst (λ qs. AreHoles t.gone qs (length t.hashes.items)) (sym e) (are_holes t h q s c.deref.result.now o w y (omega arith));
      gone = omega (arith, ap length k, z, w);
      few = omega (arith, c.requires.few, ap length e, more, u, ap length r);
      space = (omega (arith, h.space.0, u, ap length r), omega (arith, h.space.1, u, ap length r));
      room = omega (arith, h.room, ap (λ xs. length (drop t.gone xs)) k, length-drop t.gone (remove (hashes_beside t) q), length-drop t.gone (hashes_beside t), z);
      linked = subst (λ (p : List ℕ × (List ℕ × List ℕ)). IsChained (2 ^ t.bits) p.0 t.hashes.items p.1.0 p.1.1) (λ j. (sym e j, (sym x j, sym r j))) (chained t h q s c.deref.result.now o w y c.deref-2.result.now ls hs c.deref-2.ensures.value c.pass_over-hole.ensures.chained);
    }
