use Rattle.std.proofs.Common.{◌≡◌, ◌+◌, ◌≤◌, ◌++◌, ◌∷◌, [], ℕ, List, length, true, true≢false, OnOk, if◌then◌else◌, Some, None, nat_le, sym, ap, ◌∙◌, arith, subst}
use Rattle.std.proofs.lemmas.List.{length_push}
use Rattle.std.proofs.lemmas.Bool.Decides.{nat_tests}
use Rattle.sj_tape.proofs.Scalars.{on_err}
use Rattle.sj_object.specs.Index.{NeedsHash, buckets_for}
use Rattle.sj_object.specs.Stored.{pairs_of, buckets_of, IsIndexOf}
use Rattle.sj_object.specs.declared.map.store.Store.{Store}
use Rattle.sj_object.specs.declared.map.store.Store.TheVariants.{Plain, Hashed}
use Rattle.sj_object.proofs.Hashed.{hashes, hashes-length}
use Rattle.sj_object.proofs.map.room.make_room.Goals as goal

-- a plain list that stays one
module _ {K V : Type 0} where
  index_plain : (s : Store K V) (hs : List ℕ) (h : ℕ) → (NeedsHash (length (pairs_of s)) (buckets_of s) → ⊥) → length hs ≡ length (pairs_of s) → IsIndexOf (hs ++ h ∷ []) s
  index_plain (Plain v) hs h n e = let l : (32 ≤ length v.items) → ⊥ = n in omega (arith, l, e, length_push hs h)
  index_plain (Hashed b) hs h n e = absurd (n tt)

  buckets_plain : (s : Store K V) → (NeedsHash (length (pairs_of s)) (buckets_of s) → ⊥) → buckets_of s ≡ buckets_for (length (pairs_of s) + 1) (buckets_of s)
  buckets_plain (Plain v) n =
      let l : (32 ≤ length v.items) → ⊥ = n in
      let y : nat_le (length v.items + 1) 32 ≡ true = grind (arith, nat_tests) in
      λ j. if sym y j then None else Some 64
  buckets_plain (Hashed b) n = absurd (n tt)

pub returns-in_err-reserve-clause-refused : goal.returns-in_err-reserve-clause-refused
returns-in_err-reserve-clause-refused g c = on_err c.from_residual.result (c.reserve.ensures.index _ c.requires)

pub add_hash-requires-clause-index : goal.add_hash-requires-clause-index
add_hash-requires-clause-index g c = subst (λ ps. IsIndexOf (hashes g.K.KeyText.text_of (g.S.KeyHasher.hash_of c.args.hasher.now) ps) c.reserve.new.self) (sym c.reserve.ensures.pairs) (c.reserve.ensures.index _ c.requires)

pub returns-then-reads_hash-clause-ok : goal.returns-then-reads_hash-clause-ok
returns-then-reads_hash-clause-ok g c = subst (λ ps. OnOk c.add_hash.result (IsIndexOf (hashes g.K.KeyText.text_of (g.S.KeyHasher.hash_of c.args.hasher.now) ps ++ c.args.hash ∷ []) c.add_hash.new.store)) c.reserve.ensures.pairs c.add_hash.ensures.ok

pub returns-else-reads_hash-clause-ok : goal.returns-else-reads_hash-clause-ok
returns-else-reads_hash-clause-ok g c =
    let t = g.K.KeyText.text_of in
    let H = g.S.KeyHasher.hash_of c.args.hasher.now in
    let ps = pairs_of c.args.store.now in
    index_plain c.reserve.new.self (hashes t H ps) c.args.hash (λ n. true≢false (sym (c.reads_hash.ensures.1 n) ∙ c.if-reads_hash.false)) (hashes-length t H ps ∙ ap length (sym c.reserve.ensures.pairs))

pub returns-else-reads_hash-clause-buckets : goal.returns-else-reads_hash-clause-buckets
returns-else-reads_hash-clause-buckets g c =
    buckets_plain c.reserve.new.self (λ n. true≢false (sym (c.reads_hash.ensures.1 n) ∙ c.if-reads_hash.false)) ∙ (λ j. buckets_for (length (c.reserve.ensures.pairs j) + 1) (c.reserve.ensures.buckets j))
