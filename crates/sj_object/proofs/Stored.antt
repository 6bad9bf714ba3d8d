-- What a change of one value leaves of a map's members.
use Rattle.std.proofs.Common.{◌≡◌, ℕ, true, List, [], ◌∷◌, ◌++◌, length, get_or, slice_set, sym, ap, ◌∙◌, subst, arith}
use Rattle.std.proofs.lemmas.List.{length_push}
use Rattle.sj_object.specs.Texts.{no_repeats}
use Rattle.sj_object.specs.Entries.{entry_texts, entries_of}
use Rattle.sj_object.specs.Edits.{set_value_at, texts-set_value_at, length-set_value_at}
use Rattle.sj_object.specs.Index.{HasRoom}
use Rattle.sj_object.specs.Stored.{stored_members, pairs_of, buckets_of, IsIndexOf}
use Rattle.sj_object.specs.inner.Stored.{IsIndexed, IsIndexedAhead}
use Rattle.sj_object.specs.declared.map.store.Store.{Store}
use Rattle.sj_object.specs.declared.map.store.Store.TheVariants.{Plain, Hashed}
use Rattle.sj_object.proofs.Position.{entries-set_value_at}
use Rattle.sj_object.proofs.Hashed.{hashes, hashes-length, hashes-set}

-- an index of the members' hashes keeps one for each
pub indexed : {K V : Type 0} (t : K → List ℕ) (H : List ℕ → ℕ) (s : Store K V) → IsIndexOf (hashes t H (pairs_of s)) s → IsIndexed s
indexed t H (Plain v) i = tt
indexed t H (Hashed b) i = (i.table, ap length i.same ∙ hashes-length t H (stored_members b.value.members))

-- so too with one more, which stands last
pub indexed_ahead : {K V : Type 0} (t : K → List ℕ) (H : List ℕ → ℕ) (h : ℕ) (s : Store K V) (ps : List (K × V)) → pairs_of s ≡ ps → IsIndexOf (hashes t H ps ++ h ∷ []) s → IsIndexedAhead s
indexed_ahead t H h (Plain v) ps e i = tt
indexed_ahead t H h (Hashed b) ps e i = (i.table, omega (arith, ap length i.same, length_push (hashes t H ps) h, hashes-length t H ps, ap length e))

-- new is old, but for the value w of the member x at position i
pub record IsChanged {K V : Type 0} (old new : Store K V) (i : ℕ) (x : K × V) (w : V) : Type 0 where
  pub pairs : pairs_of new ≡ slice_set (pairs_of old) i (x.0, w)
  pub buckets : buckets_of new ≡ buckets_of old
  pub index : (hs : List ℕ) → IsIndexOf hs old → IsIndexOf hs new

module _ {K V : Type 0} {old new : Store K V} {i : ℕ} {x : K × V} {w : V} (t : K → List ℕ) (c : IsChanged old new i x w) (q : x ≡ get_or (pairs_of old) i x) where
  pub entries_changed : entries_of t (pairs_of new) ≡ set_value_at i w (entries_of t (pairs_of old))
  entries_changed = ap (entries_of t) c.pairs ∙ entries-set_value_at t (pairs_of old) i x w q

  pub distinct_kept : no_repeats (entry_texts (entries_of t (pairs_of old))) ≡ true → no_repeats (entry_texts (entries_of t (pairs_of new))) ≡ true
  distinct_kept d = ap (λ es. no_repeats (entry_texts es)) entries_changed ∙ ap no_repeats (texts-set_value_at i w (entries_of t (pairs_of old))) ∙ d

  pub room_kept : HasRoom (length (entries_of t (pairs_of old))) (buckets_of old) → HasRoom (length (entries_of t (pairs_of new))) (buckets_of new)
  room_kept r = subst (HasRoom (length (entries_of t (pairs_of new)))) (sym c.buckets)
      (subst (λ n. HasRoom n (buckets_of old)) (sym (ap length entries_changed ∙ length-set_value_at i w (entries_of t (pairs_of old)))) r)

  pub index_kept : (H : List ℕ → ℕ) → IsIndexOf (hashes t H (pairs_of old)) old → IsIndexOf (hashes t H (pairs_of new)) new
  index_kept H k = subst (λ hs. IsIndexOf hs new) (sym (ap (hashes t H) c.pairs ∙ hashes-set t H (pairs_of old) i x w q)) (c.index (hashes t H (pairs_of old)) k)
