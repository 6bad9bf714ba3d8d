-- A member put at a position, and one taken out and put back.
use Rattle.std.proofs.Common.{◌≡◌, ◌<◌, ℕ, zero, suc, true, false, List, [], ◌∷◌, ◌++◌, map, length, get_or, take, drop, bytes_eq, Result, Ok, is_ok, refl, sym, ap, ◌∙◌, arith}
use Rattle.std.specs.Bool.{if◌then◌else◌}
use Rattle.std.specs.List.{insert, remove, take-map, drop-map}
use Rattle.std.proofs.lemmas.List.{map-append}
use Rattle.std.proofs.lemmas.Bool.{or_parts, or_from}
use Rattle.sj_text_core.specs.Keep.{is_seen}
use Rattle.sj_text_core.proofs.Texts.{bytes_eq-sym}
use Rattle.sj_object.specs.Texts.{no_repeats}
use Rattle.sj_object.specs.inner.Texts.{not_and, not_and_of}
use Rattle.sj_object.specs.Entries.{Entry, entry_texts, entries_of}
use Rattle.sj_object.proofs.Hashed.{hashes}

map-insert : {X Y : Type 0} (f : X → Y) (xs : List X) (i : ℕ) (x : X) → map f (insert xs i x) ≡ insert (map f xs) i (f x)
map-insert f xs i x = map-append f (take i xs) (x ∷ drop i xs) ∙ (λ j. sym (take-map f i xs) j ++ f x ∷ sym (drop-map f i xs) j)

pub insert-removed : {X : Type 0} (xs : List X) (i : ℕ) (x : X) → i < length xs → x ≡ get_or xs i x → insert (remove xs i) i x ≡ xs
insert-removed [] i x l e = absurd (omega arith)
insert-removed (y ∷ xs) zero x l e = ap (λ z. z ∷ xs) e
insert-removed (y ∷ xs) (suc i) x l e = ap (λ zs. y ∷ zs) (insert-removed xs i x (omega arith) e)

-- what an insert leaves that went well
pub inserted : {X A E : Type 0} (xs ys : List X) (i : ℕ) (x : X) (r : Result A E) (a : A) → ys ≡ (if is_ok r then insert xs i x else xs) → r ≡ Ok a → ys ≡ insert xs i x
inserted xs ys i x r a e h = e ∙ (λ j. if is_ok (h j) then insert xs i x else xs)

seen-insert : (x k : List ℕ) (ts : List (List ℕ)) (i : ℕ) → is_seen x ts ≡ false → bytes_eq x k ≡ false → is_seen x (insert ts i k) ≡ false
seen-insert x k [] zero h e = or_from _ _ e refl
seen-insert x k [] (suc i) h e = or_from _ _ e refl
seen-insert x k (t ∷ ts) zero h e = or_from _ _ e h
seen-insert x k (t ∷ ts) (suc i) h e = let r = or_parts (bytes_eq x t) _ h in or_from _ _ r.0 (seen-insert x k ts i r.1 e)

pub no_repeats-insert : (k : List ℕ) (ts : List (List ℕ)) (i : ℕ) → no_repeats ts ≡ true → is_seen k ts ≡ false → no_repeats (insert ts i k) ≡ true
no_repeats-insert k [] zero d h = refl
no_repeats-insert k [] (suc i) d h = refl
no_repeats-insert k (t ∷ ts) zero d h = not_and_of _ _ h d
no_repeats-insert k (t ∷ ts) (suc i) d h =
    let n = not_and (is_seen t ts) _ d in
    let r = or_parts (bytes_eq k t) _ h in
    not_and_of _ _ (seen-insert t k ts i n.0 (bytes_eq-sym k t r.0)) (no_repeats-insert k ts i n.1 r.1)

pub texts-insert : {K V : Type 0} (es : List (Entry K V)) (i : ℕ) (e : Entry K V) → entry_texts (insert es i e) ≡ insert (entry_texts es) i e.0.1
texts-insert {K} {V} es i e = map-insert (λ (f : Entry K V). f.0.1) es i e

module _ {K V : Type 0} (t : K → List ℕ) where
  pub entries-insert : (ps : List (K × V)) (i : ℕ) (p : K × V) → entries_of t (insert ps i p) ≡ insert (entries_of t ps) i ((p.0, t p.0), p.1)
  entries-insert ps i p = map-insert (λ (p : K × V). ((p.0, t p.0), p.1)) ps i p

  pub hashes-insert : (H : List ℕ → ℕ) (ps : List (K × V)) (i : ℕ) (p : K × V) → hashes t H (insert ps i p) ≡ insert (hashes t H ps) i (H (t p.0))
  hashes-insert H ps i p = map-insert (λ (p : K × V). H (t p.0)) ps i p

  pub distinct-insert : (ps : List (K × V)) (i : ℕ) (p : K × V) → no_repeats (entry_texts (entries_of t ps)) ≡ true → is_seen (t p.0) (entry_texts (entries_of t ps)) ≡ false → no_repeats (entry_texts (entries_of t (insert ps i p))) ≡ true
  distinct-insert ps i p d h = ap (λ es. no_repeats (entry_texts es)) (entries-insert ps i p) ∙ ap no_repeats (texts-insert (entries_of t ps) i ((p.0, t p.0), p.1)) ∙ no_repeats-insert (t p.0) (entry_texts (entries_of t ps)) i d h
