use Rattle.std.proofs.Common.{◌≡◌, ◌<◌, ℕ, length, refl, sym, ap, ◌∙◌, arith, subst, get_or, slice_set, Some, None, Vec, Box, Global}
use Rattle.std.specs.declared.collections.VecDeque.{VecDeque}
use Rattle.std.specs.Vec.{with_item}
use Rattle.std.specs.VecDeque.{deque_with_item}
use Rattle.sj_object.specs.Entries.{entries_of}
use Rattle.sj_object.specs.HashMap.{same_contents}
use Rattle.sj_object.specs.Edits.{nth_value, set_value_at, with_value_at}
use Rattle.sj_object.specs.Stored.{stored_members, pairs_of, buckets_of, IsIndexOf}
use Rattle.sj_object.specs.declared.map.store.Store.{Store}
use Rattle.sj_object.specs.declared.map.store.Store.TheVariants.{Plain, Hashed}
use Rattle.sj_object.specs.declared.map.members.Members.{Members}
use Rattle.sj_object.specs.declared.map.members.Members.TheVariants.{Listed, Ring}
use Rattle.sj_object.specs.declared.map.store.Hashed.{Hashed as Beside}
use Rattle.sj_object.proofs.Position.{entries-set_value_at, value_at-get}
use Rattle.sj_object.proofs.Hashed.{entries-length}
use Rattle.sj_object.proofs.Stored.{IsChanged, distinct_kept, room_kept, index_kept}
use Rattle.sj_object.proofs.map.HashMap.value_at_mut.Goals as goal

module _ {K V : Type 0} (s : Store K V) (i : ℕ) (x : K × V) (w : V) where
  plain_changed : (v : Vec (K × V) Global) (new : Store K V) → s ≡ Plain v → new ≡ Plain (with_item v i (x.0, w)) → IsChanged s new i x w
  plain_changed v new is e = record {
    pairs = ap pairs_of e ∙ ap (λ o. slice_set (pairs_of o) i (x.0, w)) (sym is);
    buckets = ap buckets_of e ∙ sym (ap buckets_of is);
    index = λ hs k. subst (IsIndexOf hs) (sym e) (subst (IsIndexOf hs) is k);
  }

  -- the box with other members
  abbrev with_members : Box (Beside K V) Global → Beside K V → Members K V → Box (Beside K V) Global
  with_members b v m = record b { value = record { members = m; table = v.table } }

  beside_changed : (b : Box (Beside K V) Global) (m : Members K V) (new : Store K V) → s ≡ Hashed b → stored_members m ≡ slice_set (stored_members b.value.members) i (x.0, w) → new ≡ Hashed (with_members b b.value m) → IsChanged s new i x w
  beside_changed b m new is p e = record {
    pairs = ap pairs_of e ∙ p ∙ ap (λ o. slice_set (pairs_of o) i (x.0, w)) (sym is);
    buckets = ap buckets_of e ∙ sym (ap buckets_of is);
    index = λ hs k. subst (IsIndexOf hs) (sym e) (subst (IsIndexOf hs) is k);
  }

after : {A : Type 0} {a b c : A} → b ≡ c → a ≡ b → a ≡ c
after q p = p ∙ q

module _ {K V : Type 0} {s : Store K V} {x : K × V} (i : ℕ) where
  in_plain : {u v : Vec (K × V) Global} → x ≡ get_or u.items i x → u ≡ v → s ≡ Plain v → x ≡ get_or (pairs_of s) i x
  in_plain q e is = q ∙ ap (λ (u : Vec (K × V) Global). get_or u.items i x) e ∙ ap (λ o. get_or (pairs_of o) i x) (sym is)

  in_beside : {m : Members K V} {b : Box (Beside K V) Global} → x ≡ get_or (stored_members m) i x → b.value.members ≡ m → s ≡ Hashed b → x ≡ get_or (pairs_of s) i x
  in_beside q e is = q ∙ ap (λ n. get_or (stored_members n) i x) (sym e) ∙ ap (λ o. get_or (pairs_of o) i x) (sym is)

pub invariant_of-self-inside-lent : goal.invariant_of-self-inside-lent
invariant_of-self-inside-lent g c w =
    let t = g.K.KeyText.text_of in
    let i = c.args.position in
    let m = c.self.inside in
    let x = c.index_mut-pair.result.now in
    let q = in_plain i c.index_mut-pair.ensures.value c.in-Plain.pairs-is c.in-Plain.is in
    let h = plain_changed m.store i x w c.in-Plain.pairs _ c.in-Plain.is (let e : _ ≡ Plain (with_item c.in-Plain.pairs i (x.0, w)) = rw c.in-Plain.is refl in e) in
    (distinct_kept t h q m.distinct, (room_kept t h q m.room, tt))

pub invariant_of-self-inside-lent-in-Listed : goal.invariant_of-self-inside-lent-in-Listed
invariant_of-self-inside-lent-in-Listed g c w =
    let t = g.K.KeyText.text_of in
    let i = c.args.position in
    let m = c.self.inside in
    let x = c.index_mut-pair-in-Listed.result.now in
    let b = c.in-Hashed.hashed in
    let l = c.in-Listed.pairs in
    let d : c.deref_mut.result.now ≡ b.value = c.deref_mut.ensures.value ∙ ap (λ (b : Box (Beside g.row.K.Denot g.row.V.Denot) Global). b.value) c.in-Hashed.hashed-is in
    let n : b.value.members ≡ Listed l = ap (λ (v : Beside g.row.K.Denot g.row.V.Denot). v.members) (sym d) ∙ c.in-Listed.is in
    let p : x ≡ get_or l.items i x = c.index_mut-pair-in-Listed.ensures.value ∙ ap (λ (u : Vec (g.row.K.Denot × g.row.V.Denot) Global). get_or u.items i x) c.in-Listed.pairs-is in
    let q = in_beside i p n c.in-Hashed.is in
    let e : _ ≡ Hashed (with_members m.store i x w b b.value (Listed (with_item l i (x.0, w)))) = rw c.in-Hashed.is (rw c.in-Listed.is (ap (λ v. Hashed (with_members m.store i x w b v (Listed (with_item l i (x.0, w))))) d)) in
    let h = beside_changed m.store i x w b (Listed (with_item l i (x.0, w))) _ c.in-Hashed.is (ap (λ k. slice_set (stored_members k) i (x.0, w)) (sym n)) e in
    (distinct_kept t h q m.distinct, (room_kept t h q m.room, tt))

pub invariant_of-self-lent-in-Listed : goal.invariant_of-self-lent-in-Listed
invariant_of-self-lent-in-Listed g c w =
    let t = g.K.KeyText.text_of in
    let i = c.args.position in
    let m = c.self.inside in
    let x = c.index_mut-pair-in-Listed.result.now in
    let b = c.in-Hashed.hashed in
    let l = c.in-Listed.pairs in
    let d : c.deref_mut.result.now ≡ b.value = c.deref_mut.ensures.value ∙ ap (λ (b : Box (Beside g.row.K.Denot g.row.V.Denot) Global). b.value) c.in-Hashed.hashed-is in
    let n : b.value.members ≡ Listed l = ap (λ (v : Beside g.row.K.Denot g.row.V.Denot). v.members) (sym d) ∙ c.in-Listed.is in
    let p : x ≡ get_or l.items i x = c.index_mut-pair-in-Listed.ensures.value ∙ ap (λ (u : Vec (g.row.K.Denot × g.row.V.Denot) Global). get_or u.items i x) c.in-Listed.pairs-is in
    let q = in_beside i p n c.in-Hashed.is in
    let e : _ ≡ Hashed (with_members m.store i x w b b.value (Listed (with_item l i (x.0, w)))) = rw c.in-Hashed.is (rw c.in-Listed.is (ap (λ v. Hashed (with_members m.store i x w b v (Listed (with_item l i (x.0, w))))) d)) in
    let h = beside_changed m.store i x w b (Listed (with_item l i (x.0, w))) _ c.in-Hashed.is (ap (λ k. slice_set (stored_members k) i (x.0, w)) (sym n)) e in
    index_kept t h q (g.S.KeyHasher.hash_of m.hasher) c.self.invariant

pub invariant_of-self-inside-lent-in-Ring : goal.invariant_of-self-inside-lent-in-Ring
invariant_of-self-inside-lent-in-Ring g c w =
    let t = g.K.KeyText.text_of in
    let i = c.args.position in
    let m = c.self.inside in
    let x = c.index_mut-pair-in-Ring.result.now in
    let b = c.in-Hashed.hashed in
    let l = c.in-Ring.pairs in
    let d : c.deref_mut.result.now ≡ b.value = c.deref_mut.ensures.value ∙ ap (λ (b : Box (Beside g.row.K.Denot g.row.V.Denot) Global). b.value) c.in-Hashed.hashed-is in
    let n : b.value.members ≡ Ring l = ap (λ (v : Beside g.row.K.Denot g.row.V.Denot). v.members) (sym d) ∙ c.in-Ring.is in
    let p : x ≡ get_or l.items i x = c.index_mut-pair-in-Ring.ensures.value ∙ ap (λ (u : VecDeque (g.row.K.Denot × g.row.V.Denot) Global). get_or u.items i x) c.in-Ring.pairs-is in
    let q = in_beside i p n c.in-Hashed.is in
    let e : _ ≡ Hashed (with_members m.store i x w b b.value (Ring (deque_with_item l i (x.0, w)))) = rw c.in-Hashed.is (rw c.in-Ring.is (ap (λ v. Hashed (with_members m.store i x w b v (Ring (deque_with_item l i (x.0, w))))) d)) in
    let h = beside_changed m.store i x w b (Ring (deque_with_item l i (x.0, w))) _ c.in-Hashed.is (ap (λ k. slice_set (stored_members k) i (x.0, w)) (sym n)) e in
    (distinct_kept t h q m.distinct, (room_kept t h q m.room, tt))

pub invariant_of-self-lent-in-Ring : goal.invariant_of-self-lent-in-Ring
invariant_of-self-lent-in-Ring g c w =
    let t = g.K.KeyText.text_of in
    let i = c.args.position in
    let m = c.self.inside in
    let x = c.index_mut-pair-in-Ring.result.now in
    let b = c.in-Hashed.hashed in
    let l = c.in-Ring.pairs in
    let d : c.deref_mut.result.now ≡ b.value = c.deref_mut.ensures.value ∙ ap (λ (b : Box (Beside g.row.K.Denot g.row.V.Denot) Global). b.value) c.in-Hashed.hashed-is in
    let n : b.value.members ≡ Ring l = ap (λ (v : Beside g.row.K.Denot g.row.V.Denot). v.members) (sym d) ∙ c.in-Ring.is in
    let p : x ≡ get_or l.items i x = c.index_mut-pair-in-Ring.ensures.value ∙ ap (λ (u : VecDeque (g.row.K.Denot × g.row.V.Denot) Global). get_or u.items i x) c.in-Ring.pairs-is in
    let q = in_beside i p n c.in-Hashed.is in
    let e : _ ≡ Hashed (with_members m.store i x w b b.value (Ring (deque_with_item l i (x.0, w)))) = rw c.in-Hashed.is (rw c.in-Ring.is (ap (λ v. Hashed (with_members m.store i x w b v (Ring (deque_with_item l i (x.0, w))))) d)) in
    let h = beside_changed m.store i x w b (Ring (deque_with_item l i (x.0, w))) _ c.in-Hashed.is (ap (λ k. slice_set (stored_members k) i (x.0, w)) (sym n)) e in
    index_kept t h q (g.S.KeyHasher.hash_of m.hasher) c.self.invariant

pub returns-in-Plain : goal.returns-in-Plain
returns-in-Plain g c =
    let t = g.K.KeyText.text_of in
    let i = c.args.position in
    let m = c.self.inside in
    let x = c.index_mut-pair.result.now in
    let p : x ≡ get_or c.in-Plain.pairs.items i x = c.index_mut-pair.ensures.value ∙ ap (λ (u : Vec (g.row.K.Denot × g.row.V.Denot) Global). get_or u.items i x) c.in-Plain.pairs-is in
    let q = in_plain i c.index_mut-pair.ensures.value c.in-Plain.pairs-is c.in-Plain.is in
    let n : length (entries_of t (pairs_of m.store)) ≡ length c.args.self.now.entries = ap (λ v. length v.entries) c.self.view_is in
    let l : i < length (pairs_of m.store) = omega (arith, n, entries-length t (pairs_of m.store)) in (
      (
        refl,
        λ w.
            after (ap (λ v. with_value_at v i w) c.self.view_is) (same_contents _ _ (rw c.in-Plain.is (λ j. (entries-set_value_at t c.in-Plain.pairs.items i x w p j, (m.hasher, None))))),
      ),
      record { writes_back = tt; value = ap (λ v. nth_value i v.entries) (sym c.self.view_is) ∙ value_at-get t (pairs_of m.store) i x l q },
    )

pub returns-in-Listed : goal.returns-in-Listed
returns-in-Listed g c =
    let t = g.K.KeyText.text_of in
    let i = c.args.position in
    let m = c.self.inside in
    let x = c.index_mut-pair-in-Listed.result.now in
    let b = c.in-Hashed.hashed in
    let l = c.in-Listed.pairs in
    let d : c.deref_mut.result.now ≡ b.value = c.deref_mut.ensures.value ∙ ap (λ (b : Box (Beside g.row.K.Denot g.row.V.Denot) Global). b.value) c.in-Hashed.hashed-is in
    let n : b.value.members ≡ Listed l = ap (λ (v : Beside g.row.K.Denot g.row.V.Denot). v.members) (sym d) ∙ c.in-Listed.is in
    let p : x ≡ get_or l.items i x = c.index_mut-pair-in-Listed.ensures.value ∙ ap (λ (u : Vec (g.row.K.Denot × g.row.V.Denot) Global). get_or u.items i x) c.in-Listed.pairs-is in
    let q = in_beside i p n c.in-Hashed.is in
    let many : length (entries_of t (pairs_of m.store)) ≡ length c.args.self.now.entries = ap (λ v. length v.entries) c.self.view_is in
    let within : i < length (pairs_of m.store) = omega (arith, many, entries-length t (pairs_of m.store)) in (
      (
        refl,
        λ w.
            after (ap (λ v. with_value_at v i w) c.self.view_is) (same_contents _ _ (rw c.in-Hashed.is (rw c.in-Listed.is (λ j. (
              (entries-set_value_at t l.items i x w p ∙ ap (λ k. set_value_at i w (entries_of t (stored_members k))) (sym n)) j,
              (m.hasher, Some (length (d j).table.heads.items)),
            ))))),
      ),
      record { writes_back = tt; value = ap (λ v. nth_value i v.entries) (sym c.self.view_is) ∙ value_at-get t (pairs_of m.store) i x within q },
    )

pub returns-in-Ring : goal.returns-in-Ring
returns-in-Ring g c =
    let t = g.K.KeyText.text_of in
    let i = c.args.position in
    let m = c.self.inside in
    let x = c.index_mut-pair-in-Ring.result.now in
    let b = c.in-Hashed.hashed in
    let l = c.in-Ring.pairs in
    let d : c.deref_mut.result.now ≡ b.value = c.deref_mut.ensures.value ∙ ap (λ (b : Box (Beside g.row.K.Denot g.row.V.Denot) Global). b.value) c.in-Hashed.hashed-is in
    let n : b.value.members ≡ Ring l = ap (λ (v : Beside g.row.K.Denot g.row.V.Denot). v.members) (sym d) ∙ c.in-Ring.is in
    let p : x ≡ get_or l.items i x = c.index_mut-pair-in-Ring.ensures.value ∙ ap (λ (u : VecDeque (g.row.K.Denot × g.row.V.Denot) Global). get_or u.items i x) c.in-Ring.pairs-is in
    let q = in_beside i p n c.in-Hashed.is in
    let many : length (entries_of t (pairs_of m.store)) ≡ length c.args.self.now.entries = ap (λ v. length v.entries) c.self.view_is in
    let within : i < length (pairs_of m.store) = omega (arith, many, entries-length t (pairs_of m.store)) in (
      (
        refl,
        λ w.
            after (ap (λ v. with_value_at v i w) c.self.view_is) (same_contents _ _ (rw c.in-Hashed.is (rw c.in-Ring.is (λ j. (
              (entries-set_value_at t l.items i x w p ∙ ap (λ k. set_value_at i w (entries_of t (stored_members k))) (sym n)) j,
              (m.hasher, Some (length (d j).table.heads.items)),
            ))))),
      ),
      record { writes_back = tt; value = ap (λ v. nth_value i v.entries) (sym c.self.view_is) ∙ value_at-get t (pairs_of m.store) i x within q },
    )
