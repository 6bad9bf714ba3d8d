use Rattle.std.proofs.Common.{◌≡◌, ◌+◌, ◌^◌, ℕ, List, ◌∷◌, length, take, drop, get_or, arith, sym, ap, ◌∙◌, subst}
use Rattle.std.proofs.Math.Seq.{drop-cons}
use Rattle.std.proofs.lemmas.List.{get_or_default, length-take-le}
use Rattle.sj_object.specs.Index.{IsTable, hashes_beside}
use Rattle.sj_object.specs.declared.map.index.Table.{Table}
use Rattle.sj_object.specs.Holes.{AreHoles, without, IsChained}
use Rattle.sj_object.proofs.Chained.{IsChained-cut, remove-end}
use Rattle.sj_object.proofs.map.index.Table.cut_hole.Goals as goal

-- the table without the hole q, which stands last
module _ (t : Table) (h : IsTable t) (q : ℕ) (qs : List ℕ) (e : t.holes.items ≡ q ∷ qs) (z : q + 1 ≡ length t.hashes.items) where
  abbrev n : ℕ
  n = 2 ^ t.bits

  holes : AreHoles t.gone (q ∷ qs) (length t.hashes.items)
  holes = subst (λ rs. AreHoles t.gone rs (length t.hashes.items)) e h.holes

  linked : IsChained n (q ∷ qs) t.hashes.items t.links.items t.heads.items
  linked = subst (λ rs. IsChained n rs t.hashes.items t.links.items t.heads.items) e h.linked

  chained : IsChained n qs (take q t.hashes.items) (take q t.links.items) t.heads.items
  chained = IsChained-cut n t.gone q qs t.hashes.items t.links.items t.heads.items holes z linked

  same : without qs (take q t.hashes.items) ≡ hashes_beside t
  same = ap (without qs) (sym (remove-end n t.gone q qs t.hashes.items t.links.items t.heads.items holes z linked)) ∙ ap (λ rs. without rs t.hashes.items) (sym e)

pub returns-clause-table : goal.returns-clause-table
returns-clause-table c =
    let t = c.args.self.now in
    let v = c.requires.table in
    let xs = t.holes.items in
    let q : ℕ = get_or xs 0 0 in
    let qs : List ℕ = drop 1 xs in
    let e : xs ≡ q ∷ qs = drop-cons xs 0 0 c.requires.some in
    let z = c.requires.last in
    let r : c.remove-last.result ≡ q = c.remove-last.ensures.value ∙ get_or_default xs 0 c.remove-last.result 0 c.requires.some in
    let o : c.remove-last.new.self.items ≡ qs = c.remove-last.ensures.items in
    let u : c.truncate.new.self.items ≡ take q t.hashes.items = c.truncate.ensures.items ∙ ap (λ m. take m t.hashes.items) r in
    let y : c.truncate-2.new.self.items ≡ take q t.links.items = c.truncate-2.ensures.items ∙ ap (λ m. take m t.links.items) r in
    let l : length c.truncate.new.self.items ≡ q = ap length u ∙ length-take-le q t.hashes.items (omega (arith, z)) in
    let k : without c.remove-last.new.self.items c.truncate.new.self.items ≡ hashes_beside t = (λ i. without (o i) (u i)) ∙ same t v q qs e z in
    let a = holes t v q qs e z in
    let f : length xs ≡ length qs + 1 = omega (arith, ap length e) in
    record {
      bits = v.bits;
      some = v.some;
      most = (omega (arith, v.most.0, ap length o, f), omega (arith, v.most.1, c.remove-last.ensures.capacity));
      holes = subst (λ (p : List ℕ × ℕ). AreHoles t.gone p.0 p.1) (λ i. (sym o i, sym l i)) a.1.1;
      gone = omega (arith, v.gone, ap length k);
      few = omega (arith, v.few, ap length o, f);
      space = (omega (arith, v.space.0, c.truncate.ensures.capacity), omega (arith, v.space.1, c.truncate-2.ensures.capacity));
      room = omega (arith, v.room, ap (λ xs. length (drop t.gone xs)) k);
      linked = subst (λ (p : List ℕ × (List ℕ × List ℕ)). IsChained (2 ^ t.bits) p.0 p.1.0 p.1.1 t.heads.items) (λ i. (sym o i, (sym u i, sym y i))) (chained t v q qs e z);
    }
