use Rattle.std.proofs.Common.{◌≡◌, ℕ, List, suc, ◌<◌, ◌≤◌, ◌+◌, ◌-◌, ◌%◌, ◌^◌, ◌++◌, Some, Bool, true, false, [], length, get_or, drop, bytes_eq, nat_le, arith, refl, sym, ap, ◌∙◌, subst}
use Rattle.std.proofs.lemmas.Bool.Decides.{nat_tests}
use Rattle.std.proofs.lemmas.List.{get_or_default, get_or-drop, length-drop}
use Rattle.std.proofs.lemmas.Nat.{pow_pos}
use Rattle.std.proofs.lemmas.Bool.{false_from_ne_true}
use Rattle.sj_text_core.specs.Keep.{is_seen}
use Rattle.sj_object.specs.Entries.{entry_texts, entries_of}
use Rattle.sj_object.specs.Steps.{walk}
use Rattle.sj_object.specs.Index.{hashes_beside, hashes_in, IsTable}
use Rattle.sj_object.specs.declared.map.index.Table.{Table}
use Rattle.sj_object.specs.Chains.{last_below}
use Rattle.sj_object.specs.Holes.{raised_by, AreHoles}
use Rattle.sj_object.specs.inner.Holes.{lowered_by}
use Rattle.sj_object.proofs.Chains.{last_le, last_dropped}
use Rattle.sj_object.proofs.Holes.{AreHoles-any, AreHoles-more, lowered_raised_by, raised_by_ge, raised_by_less, raised_by-first, raised_by-within, get_or-without}
use Rattle.sj_object.proofs.Tables.{length-beside}
use Rattle.sj_object.proofs.Walked.{count, at_start, at_next, at_member}
use Rattle.sj_object.proofs.Position.{found_at, absent_at}
use Rattle.sj_object.proofs.Hashed.{agrees, text_at, texts-length, walk_found, walk_absent}
use Rattle.sj_object.proofs.map.search.position_in_parts.Goals as goal
use Rattle.sj_object.proofs.map.search.position_in_parts.Goals.{then-index-hash+else-is_key, else-index-hash}

-- the places and links of the members that are there
module _ (T : Table) (q : IsTable T) where
  abbrev n : ℕ
  n = 2 ^ T.bits

  abbrev low : ℕ → ℕ
  low p = lowered_by T.holes.items p

  abbrev Is : ℕ → Type 0
  Is p = (p ≤ length T.hashes.items) × (p ≡ raised_by T.holes.items (low p))

  is_there : (p m : ℕ) → p ≡ raised_by T.holes.items m → m ≤ length (hashes_beside T) → Is p × (low p ≡ m)
  is_there p m e l =
      let s : low p ≡ m = ap low e ∙ lowered_raised_by T.holes.items m in
      ((omega (arith, e, raised_by-within T.gone T.holes.items (length T.hashes.items) (length (hashes_beside T)) m q.holes (length-beside T q) l), e ∙ ap (raised_by T.holes.items) (sym s)), s)

  begins : (b h : ℕ) → b < n → h ≡ get_or T.heads.items b h → Is h × (low h - T.gone ≡ last_below n b (hashes_in T) (length (hashes_in T)))
  begins b h l e =
      let m = last_below n b (hashes_beside T) (length (hashes_beside T)) in
      let s = is_there h m (e ∙ get_or_default T.heads.items b h 0 (omega (arith, l, q.linked.count)) ∙ q.linked.starts b l) (last_le n b (hashes_beside T) (length (hashes_beside T))) in
      let whole : length (hashes_beside T) ≡ T.gone + length (hashes_in T) = omega (arith, length-drop T.gone (hashes_beside T), q.gone) in
      (s.0, ap (λ p. p - T.gone) (s.1 ∙ ap (last_below n b (hashes_beside T)) whole) ∙ sym (last_dropped n (hashes_beside T) T.gone b (length (hashes_in T))))

  -- a place behind those that left at the front
  at : (p : ℕ) → Is p → T.gone < p → T.gone < low p
  at p s l = by_test (nat_le (low p) T.gone) refl where
    by_test : (c : Bool) → nat_le (low p) T.gone ≡ c → T.gone < low p
    by_test true e =
        let f : low p ≤ T.gone = grind (arith, nat_tests) in
        absurd (omega (arith, s.1, l, f, raised_by-first T.gone T.holes.items (length T.hashes.items) (low p) q.holes f))
    by_test false e = grind (arith, nat_tests)

  past : (p : ℕ) → Is p → p ≤ T.gone → low p - T.gone ≡ 0
  past p s l = omega (arith, s.1, l, raised_by_ge T.holes.items (low p))

  module _ (p i : ℕ) (s : Is p) (e : low p ≡ suc (T.gone + i)) (l : i < length (hashes_in T)) where
    within : T.gone + i < length (hashes_beside T)
    within = omega (arith, l, length-drop T.gone (hashes_beside T))

    raises : suc (p - 1) ≡ raised_by T.holes.items (suc (T.gone + i))
    raises = omega (arith, s.1, ap (raised_by T.holes.items) e, raised_by_ge T.holes.items (suc (T.gone + i)))

    some : 0 < p
    some = omega (arith, s.1, ap (raised_by T.holes.items) e, raised_by_ge T.holes.items (suc (T.gone + i)))

    goes_on : (x : ℕ) → x ≡ get_or T.links.items (p - 1) x → Is x × ((low x - T.gone ≡ last_below n (get_or (hashes_in T) i 0 % n) (hashes_in T) i) × (x < p))
    goes_on x f =
        let w : p - 1 < length T.links.items = omega (arith, some, s.0, q.linked.size) in
        let b = get_or (hashes_beside T) (T.gone + i) 0 % n in
        let m = last_below n b (hashes_beside T) (T.gone + i) in
        let h : x ≡ raised_by T.holes.items m = f ∙ get_or_default T.links.items (p - 1) x 0 w ∙ q.linked.nexts (T.gone + i) (p - 1) within raises in
        let le = last_le n b (hashes_beside T) (T.gone + i) in
        let r = is_there x m h (omega (arith, le, within)) in (
          r.0,
          (
            ap (λ j. j - T.gone) r.1 ∙ sym (last_dropped n (hashes_beside T) T.gone b i) ∙ ap (λ z. last_below n (z % n) (hashes_in T) i) (sym (get_or-drop T.gone (hashes_beside T) i 0)),
            omega (arith, h, some, raises, raised_by_less T.holes.items m (suc (T.gone + i)) (omega (arith, le))),
          ),
        )

    hash_there : (h : ℕ) → h ≡ get_or T.hashes.items (p - 1) h → h ≡ get_or (hashes_in T) i 0
    hash_there h f =
        let w : p - 1 < length T.hashes.items = omega (arith, some, s.0) in
        f ∙ get_or_default T.hashes.items (p - 1) h 0 w ∙ sym (get_or-without T.gone T.holes.items T.hashes.items (length T.hashes.items) 0 (T.gone + i) (p - 1) refl q.holes raises) ∙ sym (get_or-drop T.gone (hashes_beside T) i 0)

pub loop-place-init : goal.loop-place-init
loop-place-init g c =
    let T = c.args.table.now in
    let x = c.args.hash in
    let hs = hashes_in T in
    let p = c.index-place.result.now in
    let a = agrees g.K.KeyText.text_of (g.S.KeyHasher.hash_of c.args._hasher.now) c.args.text.now (c.args.front.now ++ c.args.back.now) hs x c.requires.table.same c.requires.hash in
    let l : x % 2 ^ T.bits < 2 ^ T.bits = omega (arith, pow_pos T.bits) in
    let e = begins T c.requires.table.table (x % 2 ^ T.bits) p l (c.index-place.ensures ∙ ap (λ b. get_or T.heads.items b p) c.bucket_of.ensures) in
    let s = at_start (2 ^ T.bits) x c.args.text.now hs (entry_texts (entries_of g.K.KeyText.text_of (c.args.front.now ++ c.args.back.now))) a (lowered_by T.holes.items p - T.gone) e.1 in
    record { within = e.0.0; passed = omega arith; beside = λ o m. refl; there = e.0.1; stands = s.0; counted = omega (arith, s.1) }

-- the position of the member at the place of a walk
place : (T : Table) (q : IsTable T) (p : ℕ) → Is T q p → T.gone < p → lowered_by T.holes.items p ≡ suc (T.gone + (lowered_by T.holes.items p - 1 - T.gone))
place T q p s l = let m = at T q p s l in omega (arith, m)

-- a place beside the holes, of which a walk passed so many
lower : (T : Table) (p x : ℕ) (qs : List ℕ) → qs ≡ T.holes.items → (n : ℕ) → n ≡ length T.holes.items → lowered_by qs p + (length qs - x) ≡ p → p - (n - x) ≡ lowered_by T.holes.items p
lower T p x qs e n l h = omega (arith, h, ap (λ rs. lowered_by rs p + (length rs - x)) e, l)

-- what a step leaves passed
kept_by : (T : Table) (o x y : ℕ) (qs : List ℕ) → qs ≡ T.holes.items → x ≡ y → y ≤ length qs → ((r : ℕ) → r ≤ o → lowered_by (drop y qs) r ≡ lowered_by qs r) → (x ≤ length T.holes.items) × ((r : ℕ) → r ≤ o → lowered_by (drop x T.holes.items) r ≡ lowered_by T.holes.items r)
kept_by T o x y qs e l w h = (omega (arith, w, l, ap length e), λ r m. (λ i. lowered_by (drop (l i) (sym e i)) r) ∙ h r m ∙ ap (λ rs. lowered_by rs r) e)

-- the holes of a table fall, and are in the range of a place
are_holes : (T : Table) (q : IsTable T) (qs : List ℕ) → qs ≡ T.holes.items → AreHoles 0 qs (2 ^ 64)
are_holes T q qs e = subst (λ rs. AreHoles 0 rs (2 ^ 64)) (sym e) (AreHoles-more 0 T.holes.items (length T.hashes.items) (2 ^ 64) (omega (arith, T.hashes.ok.0)) (AreHoles-any T.gone T.holes.items (length T.hashes.items) q.holes))

pub pass-passed-requires-clause-holes : goal.pass-passed-requires-clause-holes
pass-passed-requires-clause-holes g c = are_holes c.args.table.now c.requires.table.table c.deref.result.now c.deref.ensures.value

pub overflow_sub-i-then-index-hash-2 : goal.overflow_sub-i-then-index-hash-2
overflow_sub-i-then-index-hash-2 g c =
    let T = c.args.table.now in
    let v = c.loop-place.invariant in
    omega (arith, lower T c.loop-place.place c.pass-passed.result c.deref.result.now c.deref.ensures.value c.len.result (c.len.ensures ∙ T.holes.ok.0) c.pass-passed.ensures.place, at T c.requires.table.table c.loop-place.place (v.within, v.there) c.loop-place-test.true)

pub overflow_sub-i-then-index-hash-3 : goal.overflow_sub-i-then-index-hash-3
overflow_sub-i-then-index-hash-3 g c =
    let T = c.args.table.now in
    let v = c.loop-place.invariant in
    omega (arith, lower T c.loop-place.place c.pass-passed.result c.deref.result.now c.deref.ensures.value c.len.result (c.len.ensures ∙ T.holes.ok.0) c.pass-passed.ensures.place, at T c.requires.table.table c.loop-place.place (v.within, v.there) c.loop-place-test.true)

pub pair_at-requires : goal.pair_at-requires
pair_at-requires g c =
    let T = c.args.table.now in
    let v = c.loop-place.invariant in
    omega (arith, c.pass-passed.ensures.place, ap (λ qs. lowered_by qs c.loop-place.place + length qs) c.deref.ensures.value, c.len.ensures, T.holes.ok.0, at T c.requires.table.table c.loop-place.place (v.within, v.there) c.loop-place-test.true, texts-length g.K.KeyText.text_of (c.args.front.now ++ c.args.back.now), v.stands.within)

pub returns-then-is_key-clause-found : goal.returns-then-is_key-clause-found
returns-then-is_key-clause-found g c =
    let t = g.K.KeyText.text_of in
    let k = c.args.text.now in
    let ps = (c.args.front.now ++ c.args.back.now) in
    let low : ℕ = c.loop-place.place - (c.len.result - c.pass-passed.result) in
    let i = low - 1 - c.args.table.now.gone in
    let r = c.pair_at.result.now in
    let there : r ≡ get_or ps i r = c.pair_at.ensures in
    let T = c.args.table.now in
    let v = c.loop-place.invariant in
    let y : low ≡ lowered_by T.holes.items c.loop-place.place = lower T c.loop-place.place c.pass-passed.result c.deref.result.now c.deref.ensures.value c.len.result (c.len.ensures ∙ T.holes.ok.0) c.pass-passed.ensures.place in
    let l : i < length ps = omega (arith, y, at T c.requires.table.table c.loop-place.place (v.within, v.there) c.loop-place-test.true, texts-length t ps, v.stands.within) in
    let f = found_at t k ps i r c.requires.distinct l there (sym c.is_key.ensures.answer ∙ c.if-is_key.true) in
    sym (f.place 0 ∙ (let h : 0 + i ≡ i = omega arith in ap (λ m. Some m) h))

pub returns-then-is_key-clause-exact : goal.returns-then-is_key-clause-exact
returns-then-is_key-clause-exact g c =
    let t = g.K.KeyText.text_of in
    let H = g.S.KeyHasher.hash_of c.args._hasher.now in
    let k = c.args.text.now in
    let ps = (c.args.front.now ++ c.args.back.now) in
    let T = c.args.table.now in
    let v = c.loop-place.invariant in
    let p = lowered_by T.holes.items c.loop-place.place in
    let low : ℕ = c.loop-place.place - (c.len.result - c.pass-passed.result) in
    let y : low ≡ p = lower T c.loop-place.place c.pass-passed.result c.deref.result.now c.deref.ensures.value c.len.result (c.len.ensures ∙ T.holes.ok.0) c.pass-passed.ensures.place in
    let i = low - 1 - T.gone in
    let r = c.pair_at.result.now in
    let there : r ≡ get_or ps i r = c.pair_at.ensures in
    let n = 2 ^ T.bits in
    let x = c.args.hash in
    let hs = hashes_in T in
    let d = c.requires.table.same in
    let a = agrees t H k ps hs x d c.requires.hash in
    let z = at T c.requires.table.table c.loop-place.place (v.within, v.there) c.loop-place-test.true in
    let l : i < length ps = omega (arith, y, z, texts-length t ps, v.stands.within) in
    let f = found_at t k ps i r c.requires.distinct l there (sym c.is_key.ensures.answer ∙ c.if-is_key.true) in
    let w = ap (λ m. walk H m k (entries_of t ps)) c.requires.table.table.linked.count ∙ walk_found t H k n i x ps hs f d c.requires.hash in
    let m = at_member n x k hs (entry_texts (entries_of t ps)) a (p - T.gone) i (omega (arith, y, z)) v.stands in
    omega (arith, w, m, c.is_key.ensures.step, v.counted)

pub loop-place-smaller : goal.loop-place-smaller
loop-place-smaller g c =
    let T = c.args.table.now in
    let q = c.requires.table.table in
    let v = c.loop-place.invariant in
    let o = c.loop-place.place in
    let p = lowered_by T.holes.items o in
    let i : ℕ = p - 1 - T.gone in
    let a = agrees g.K.KeyText.text_of (g.S.KeyHasher.hash_of c.args._hasher.now) c.args.text.now (c.args.front.now ++ c.args.back.now) (hashes_in T) c.args.hash c.requires.table.same c.requires.hash in
    let e = place T q o (v.within, v.there) c.loop-place-test.true in
    let l : i < length (hashes_in T) = omega (arith, a.size, v.stands.within, e) in
    (goes_on T q o i (v.within, v.there) e l c.index-place-in-loop-place.result.now c.index-place-in-loop-place.ensures).1.1

pub loop-place-preserved : goal.loop-place-preserved
loop-place-preserved g c =
    let t = g.K.KeyText.text_of in
    let H = g.S.KeyHasher.hash_of c.args._hasher.now in
    let k = c.args.text.now in
    let ps = (c.args.front.now ++ c.args.back.now) in
    let T = c.args.table.now in
    let q = c.requires.table.table in
    let v = c.loop-place.invariant in
    let o = c.loop-place.place in
    let p = lowered_by T.holes.items o in
    let i : ℕ = p - 1 - T.gone in
    let n = 2 ^ T.bits in
    let x = c.args.hash in
    let hs = hashes_in T in
    let ts = entry_texts (entries_of t ps) in
    let a = agrees t H k ps hs x c.requires.table.same c.requires.hash in
    let e = place T q o (v.within, v.there) c.loop-place-test.true in
    let l : i < length hs = omega (arith, a.size, v.stands.within, e) in
    let j : i < length ps = omega (arith, a.size, texts-length t ps, l) in
    let s = goes_on T q o i (v.within, v.there) e l c.index-place-in-loop-place.result.now c.index-place-in-loop-place.ensures in
    let step : c.if-index-hash.steps ≡ c.loop-place.steps + 1 = elim c.if-index-hash.branch [ then-index-hash+else-is_key w ↦ w.steps-is ∙ w.is_key.ensures.step | else-index-hash w ↦ w.steps-is ∙ w.tick.ensures ] in
    let b : bytes_eq k (get_or ts i []) ≡ false = elim c.if-index-hash.branch [
      | then-index-hash+else-is_key w ↦
          let y : o - (w.len.result - w.pass-passed.result) - 1 - T.gone ≡ i = ap (λ r. r - 1 - T.gone) (lower T o w.pass-passed.result w.deref.result.now w.deref.ensures.value w.len.result (w.len.ensures ∙ T.holes.ok.0) w.pass-passed.ensures.place) in
          ap (bytes_eq k) (text_at t ps i w.pair_at.result.now j (w.pair_at.ensures ∙ ap (λ m. get_or ps m w.pair_at.result.now) y)) ∙ sym w.is_key.ensures.answer ∙ w.if-is_key.false
      | else-index-hash w ↦ false_from_ne_true (bytes_eq k (get_or ts i [])) (λ y. w.if-index-hash.false (hash_there T q o i (v.within, v.there) e l c.index.result.now c.index.ensures ∙ a.same i (omega (arith, a.size, l)) y))
    ] in
    let m = at_next n x k hs ts a (p - T.gone) i (lowered_by T.holes.items c.index-place-in-loop-place.result.now - T.gone) (omega (arith, e)) v.stands b s.1.0 in
    let kept : (c.if-index-hash.passed ≤ length T.holes.items) × ((r : ℕ) → r ≤ o → lowered_by (drop c.if-index-hash.passed T.holes.items) r ≡ lowered_by T.holes.items r) = elim c.if-index-hash.branch [
      | then-index-hash+else-is_key w ↦ kept_by T o c.if-index-hash.passed w.pass-passed.result w.deref.result.now w.deref.ensures.value w.passed-is w.pass-passed.ensures.within w.pass-passed.ensures.passed
      | else-index-hash w ↦ kept_by T o c.if-index-hash.passed c.loop-place.passed T.holes.items refl w.passed-is v.passed v.beside
    ] in
    record { within = s.0.0; passed = kept.0; beside = λ r m2. kept.1 r (omega (arith, m2, s.1.1)); there = s.0.1; stands = m.0; counted = omega (arith, m.1, step, v.counted) }

pub returns-clause-found : goal.returns-clause-found
returns-clause-found g c =
    let T = c.args.table.now in
    let v = c.loop-place.invariant in
    let ts = entry_texts (entries_of g.K.KeyText.text_of (c.args.front.now ++ c.args.back.now)) in
    let z = past T c.requires.table.table c.loop-place.place (v.within, v.there) (omega (arith, c.loop-place-test.false)) in
    let u : is_seen c.args.text.now ts ≡ false = subst (λ m. is_seen c.args.text.now (drop m ts) ≡ false) z v.stands.unseen in
    sym ((absent_at g.K.KeyText.text_of c.args.text.now (c.args.front.now ++ c.args.back.now) u).placeless 0)

pub returns-clause-exact : goal.returns-clause-exact
returns-clause-exact g c =
    let t = g.K.KeyText.text_of in
    let H = g.S.KeyHasher.hash_of c.args._hasher.now in
    let k = c.args.text.now in
    let ps = (c.args.front.now ++ c.args.back.now) in
    let T = c.args.table.now in
    let v = c.loop-place.invariant in
    let n = 2 ^ T.bits in
    let x = c.args.hash in
    let hs = hashes_in T in
    let z = past T c.requires.table.table c.loop-place.place (v.within, v.there) (omega (arith, c.loop-place-test.false)) in
    let u : is_seen k (entry_texts (entries_of t ps)) ≡ false = subst (λ m. is_seen k (drop m (entry_texts (entries_of t ps))) ≡ false) z v.stands.unseen in
    let w = ap (λ m. walk H m k (entries_of t ps)) c.requires.table.table.linked.count ∙ walk_absent t H k n x ps hs u c.requires.table.same c.requires.hash in
    let d : count n (x % n) hs (lowered_by T.holes.items c.loop-place.place - T.gone) ≡ count n (x % n) hs 0 = ap (count n (x % n) hs) z in
    omega (arith, w, d, v.counted)
