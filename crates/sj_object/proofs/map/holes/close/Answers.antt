use Rattle.std.proofs.Common.{◌≡◌, ◌+◌, ◌-◌, ◌<◌, ◌≤◌, ℕ, suc, List, ◌∷◌, ◌++◌, length, take, drop, get_or, arith, refl, sym, ap, ◌∙◌, add-one, subst}
use Rattle.std.specs.List.{remove, copy_within}
use Rattle.std.proofs.Math.Seq.{drop-cons, take-suc}
use Rattle.std.proofs.lemmas.List.{length-drop}
use Rattle.sj_object.specs.Holes.{without, AreHoles}
use Rattle.sj_object.proofs.Chains.{drop-remove}
use Rattle.sj_object.proofs.Holes.{AreHoles-drop, AreHoles-more, AreHoles-split, length-without, without-behind, moved_down, length-moved}
use Rattle.sj_object.proofs.map.holes.close.Goals as goal

-- a turn of the loop, at the last hole of the first so many
module _ (g : ℕ) (qs hs xs : List ℕ) (n left l to from : ℕ) (size : n ≡ length hs) (h : AreHoles g qs n) (k : left ≡ suc l) (some : left ≤ length qs)
    (same : take to xs ++ drop from xs ≡ drop g (without (drop left qs) hs)) (places : to + g + (length qs - left) ≡ from) (room : from ≤ n)
    (holes : AreHoles from (take left qs) n) (whole : length xs ≡ n) where
  abbrev q : ℕ
  q = get_or qs l 0

  abbrev done : List ℕ
  done = drop left qs

  within : l < length qs
  within = omega (arith, some, k)

  split : AreHoles (suc q) (take l qs) n × ((from ≤ q) × (q < n))
  split = AreHoles-split from q (take l qs) n (subst (λ rs. AreHoles from rs n) (ap (λ m. take m qs) k ∙ take-suc qs l 0 within) holes)

  cons : drop l qs ≡ q ∷ done
  cons = drop-cons qs l 0 within ∙ ap (λ m. q ∷ drop m qs) (sym k)

  behind : AreHoles g done q
  behind = (subst (λ rs. AreHoles g rs n) cons (AreHoles-drop g l qs n h)).1.1

  down : to ≤ from
  down = omega (arith, places)

  beside : length (without done hs) + length done ≡ n
  beside = length-without g done hs n size (AreHoles-more g done q n (omega (arith, split.1.1)) behind)

  next : (ys : List ℕ) → ys ≡ copy_within xs from q to → take (to + (q - from)) ys ++ drop (q + 1) ys ≡ drop g (without (drop l qs) hs)
  next ys e =
      let j : ℕ = to + (q - from) in
      let p : g + j ≡ q - length done = omega (arith, places, length-drop left qs, split.1.0) in
      let o : q ≤ q = omega arith in
      (λ i. take j (e i) ++ drop (add-one q i) (e i)) ∙ moved_down xs to from q down split.1.0 (omega (arith, split.1.1, whole)) ∙ ap (λ zs. remove zs j) same
      ∙ sym (drop-remove (without done hs) g j (omega (arith, beside, places, room, length-drop left qs)))
      ∙ ap (λ m. drop g (remove (without done hs) m)) p
      ∙ ap (drop g) (sym (without-behind g done q q hs behind o))
      ∙ ap (λ rs. drop g (without rs hs)) (sym cons)

  longer : (ys : List ℕ) → ys ≡ copy_within xs from q to → length ys ≡ n
  longer ys e = ap length e ∙ length-moved xs to from q down split.1.0 (omega (arith, split.1.1, whole)) ∙ whole

last_hole : (qs : List ℕ) (left : ℕ) → 0 < left → left ≡ suc (left - 1)
last_hole qs left w = omega (arith, w)

pub move_down-requires-clause-within : goal.move_down-requires-clause-within
move_down-requires-clause-within c =
    let v = c.loop-left.invariant in
    let s = split c.args.gone c.args.holes.now c.args.hashes.now.items c.loop-left.hashes.items (length c.args.hashes.now.items) c.loop-left.left (c.loop-left.left - 1) c.loop-left.to c.loop-left.from refl c.requires.holes (omega (arith, c.loop-left-test.true)) v.some v.same v.places v.room v.holes v.size in
    (s.1.0, omega (arith, s.1.1, v.size))

pub overflow_sub-to : goal.overflow_sub-to
overflow_sub-to c =
    let v = c.loop-left.invariant in
    let s = split c.args.gone c.args.holes.now c.args.hashes.now.items c.loop-left.hashes.items (length c.args.hashes.now.items) c.loop-left.left (c.loop-left.left - 1) c.loop-left.to c.loop-left.from refl c.requires.holes (omega (arith, c.loop-left-test.true)) v.some v.same v.places v.room v.holes v.size in
    s.1.0

pub overflow_add-from : goal.overflow_add-from
overflow_add-from c =
    let v = c.loop-left.invariant in
    let s = split c.args.gone c.args.holes.now c.args.hashes.now.items c.loop-left.hashes.items (length c.args.hashes.now.items) c.loop-left.left (c.loop-left.left - 1) c.loop-left.to c.loop-left.from refl c.requires.holes (omega (arith, c.loop-left-test.true)) v.some v.same v.places v.room v.holes v.size in
    omega (arith, s.1.1, c.args.hashes.now.ok.0)

pub loop-left-preserved : goal.loop-left-preserved
loop-left-preserved c =
    let g = c.args.gone in
    let qs = c.args.holes.now in
    let hs = c.args.hashes.now.items in
    let xs = c.loop-left.hashes.items in
    let n = length hs in
    let left = c.loop-left.left in
    let l : ℕ = left - 1 in
    let to = c.loop-left.to in
    let from = c.loop-left.from in
    let v = c.loop-left.invariant in
    let k : left ≡ suc l = omega (arith, c.loop-left-test.true) in
    let s = split g qs hs xs n left l to from refl c.requires.holes k v.some v.same v.places v.room v.holes v.size in
    let e = c.move_down.ensures.hashes in
    record {
      some = omega (arith, v.some);
      same = next g qs hs xs n left l to from refl c.requires.holes k v.some v.same v.places v.room v.holes v.size c.move_down.new.hashes.items e;
      places = omega (arith, v.places, s.1.0, v.some, k);
      room = omega (arith, s.1.1);
      holes = subst (λ m. AreHoles m (take l qs) n) (sym (add-one (get_or qs l 0))) s.0;
      size = longer g qs hs xs n left l to from refl c.requires.holes k v.some v.same v.places v.room v.holes v.size c.move_down.new.hashes.items e;
      capacity = c.move_down.ensures.capacity ∙ v.capacity;
    }
