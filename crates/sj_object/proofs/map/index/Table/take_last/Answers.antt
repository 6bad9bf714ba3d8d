use Rattle.std.proofs.Common.{◌≡◌, ◌+◌, ◌-◌, ◌%◌, ◌<◌, ◌^◌, ◌∷◌, [], List, ℕ, length, take, drop, get_or, set, arith, sym, ap, ◌∙◌, subst}
use Rattle.std.proofs.Math.Seq.{take-append_seam}
use Rattle.std.proofs.lemmas.List.{get_or_default, length-take-le, length-drop, length-set}
use Rattle.std.proofs.lemmas.Nat.{pow_pos}
use Rattle.sj_object.specs.Index.{IsTable, hashes_beside, hashes_in}
use Rattle.sj_object.specs.declared.map.index.Table.{Table}
use Rattle.sj_object.specs.Holes.{AreHoles, without, IsChained}
use Rattle.sj_object.proofs.Chains.{drop-pop}
use Rattle.sj_object.proofs.Chained.{IsChained-pop, without-pop, length-pop}
use Rattle.sj_object.proofs.Tables.{length-in}
use Rattle.sj_object.proofs.map.index.Table.take_last.Goals as goal

-- what is left of the hashes, where m is the place of the last
module _ (t : Table) (h : IsTable t) (m : ℕ) (w : 0 < length (hashes_in t)) (e : m + 1 ≡ length t.hashes.items) (a : AreHoles t.gone t.holes.items m) where
  abbrev n : ℕ
  n = 2 ^ t.bits

  abbrev ps : List ℕ
  ps = without t.holes.items (take m t.hashes.items)

  longer : length (hashes_beside t) ≡ length ps + 1
  longer = length-pop n t.gone m t.holes.items t.hashes.items t.links.items t.heads.items (pow_pos t.bits) e a h.linked

  past : t.gone < length (hashes_beside t)
  past = omega (arith, w, length-drop t.gone (hashes_beside t))

  popped : ps ≡ take (length (hashes_beside t) - 1) (hashes_beside t)
  popped =
      let x = without-pop n t.gone m t.holes.items t.hashes.items t.links.items t.heads.items (pow_pos t.bits) e a h.linked in
      let l : length (hashes_beside t) - 1 ≡ length ps = omega (arith, longer) in
      sym (take-append_seam ps (get_or t.hashes.items m 0 ∷ [])) ∙ (λ i. take (sym l i) (sym x i))

  left : drop t.gone ps ≡ take (length (hashes_in t) - 1) (hashes_in t)
  left = ap (drop t.gone) popped ∙ drop-pop (hashes_beside t) t.gone past

  chained : IsChained n t.holes.items (take m t.hashes.items) (take m t.links.items) (set t.heads.items (get_or t.hashes.items m 0 % n) (get_or t.links.items m 0))
  chained = IsChained-pop n t.gone m t.holes.items t.hashes.items t.links.items t.heads.items (pow_pos t.bits) e a h.linked

-- there is a member
some : (t : Table) (h : IsTable t) → 0 < length (hashes_in t) → 0 < length t.hashes.items
some t h w = omega (arith, length-in t h, w)

pub overflow_sub-last : goal.overflow_sub-last
overflow_sub-last c = omega (arith, c.len-last.ensures, c.args.self.now.hashes.ok.0, some c.args.self.now c.requires.table c.requires.within)

pub index-requires : goal.index-requires
index-requires c = omega (arith, c.len-last.ensures, c.args.self.now.hashes.ok.0, some c.args.self.now c.requires.table c.requires.within)

pub index-requires-2 : goal.index-requires-2
index-requires-2 c = omega (arith, c.len-last.ensures, c.args.self.now.hashes.ok.0, some c.args.self.now c.requires.table c.requires.within, c.requires.table.linked.size, c.args.self.now.links.ok.0)

pub returns-clause-hashes : goal.returns-clause-hashes
returns-clause-hashes c =
    let t = c.args.self.now in
    let s = some t c.requires.table c.requires.within in
    let e : c.len-last.result - 1 + 1 ≡ length t.hashes.items = omega (arith, c.len-last.ensures, t.hashes.ok.0, s) in
    let m : c.len-last.result - 1 ≡ length t.hashes.items - 1 = omega (arith, c.len-last.ensures, t.hashes.ok.0) in
    ap (λ hs. drop t.gone (without t.holes.items hs)) c.truncate.ensures.items
    ∙ left t c.requires.table (c.len-last.result - 1) c.requires.within e (subst (AreHoles t.gone t.holes.items) (sym m) c.requires.last)

pub returns-clause-table : goal.returns-clause-table
returns-clause-table c =
    let t = c.args.self.now in
    let hs = t.hashes.items in
    let v = c.requires.table in
    let n : ℕ = 2 ^ t.bits in
    let m : ℕ = c.len-last.result - 1 in
    let e : m + 1 ≡ length hs = omega (arith, c.len-last.ensures, t.hashes.ok.0, some t v c.requires.within) in
    let r : m ≡ length hs - 1 = omega (arith, e) in
    let a : AreHoles t.gone t.holes.items m = subst (AreHoles t.gone t.holes.items) (sym r) c.requires.last in
    let s : m < length t.links.items = omega (arith, e, v.linked.size) in
    let x : c.index-2.result.now ≡ get_or t.links.items m 0 = c.index-2.ensures ∙ get_or_default t.links.items m c.index-2.result.now 0 s in
    let y : c.index.result.now ≡ get_or hs m 0 = c.index.ensures ∙ get_or_default hs m c.index.result.now 0 (omega (arith, e)) in
    let b : c.bucket_of-bucket.result ≡ get_or hs m 0 % n = c.bucket_of-bucket.ensures ∙ ap (λ h. h % n) y in
    let u : c.truncate.new.self.items ≡ take m hs = c.truncate.ensures.items in
    let j : without t.holes.items c.truncate.new.self.items ≡ without t.holes.items (take m hs) = ap (without t.holes.items) u in
    let k = longer t v m c.requires.within e a in
    let g = past t v m c.requires.within e a in
    let f : length (set t.heads.items c.bucket_of-bucket.result c.index-2.result.now) ≡ length t.heads.items = length-set t.heads.items c.bucket_of-bucket.result c.index-2.result.now in
    let o : length c.truncate.new.self.items ≡ m = ap length u ∙ length-take-le m hs (omega (arith, e)) in
    record {
      bits = v.bits;
      some = omega (arith, v.some, f);
      most = v.most;
      holes = subst (AreHoles t.gone t.holes.items) (sym o) a;
      gone = omega (arith, ap length j, k, g);
      few = omega (arith, v.few, f);
      space = (omega (arith, v.space.0, f, c.truncate.ensures.capacity), omega (arith, v.space.1, f, c.truncate-2.ensures.capacity));
      room = omega (arith, v.room, ap (λ xs. length (drop t.gone xs)) j, length-drop t.gone (hashes_beside t), length-drop t.gone (without t.holes.items (take m hs)), k);
      linked = subst (λ (p : List ℕ × (List ℕ × List ℕ)). IsChained n t.holes.items p.0 p.1.0 p.1.1) (λ i. (sym u i, (sym c.truncate-2.ensures.items i, set t.heads.items (sym b i) (sym x i)))) (chained t v m c.requires.within e a);
    }
