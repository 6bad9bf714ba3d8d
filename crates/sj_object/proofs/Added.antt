-- A member that goes last, and whose value is lent then.
use Rattle.std.proofs.Common.{◌≡◌, ℕ, ◌+◌, List, [], ◌∷◌, ◌++◌, length, Option, Some, None, IfSome, refl, sym, ap, ◌∙◌, arith}
use Rattle.std.proofs.lemmas.List.{length_push}
use Rattle.sj_object.specs.Entries.{entries_of}
use Rattle.sj_object.specs.Edits.{put_entry, nth_value, set_value_at, length-set_value_at}
use Rattle.sj_object.proofs.Repeats.{entries_of-append}
use Rattle.sj_object.proofs.Position.{IsAbsent, IsFound, set_value_at-last, value_at-last}
use Rattle.sj_object.proofs.Hashed.{entries-length}

module _ {K V : Type 0} (t : K → List ℕ) (ps qs : List (K × V)) (k : K) (v : V) (n : ℕ) (e : qs ≡ ps ++ (k, v) ∷ []) (q : n ≡ length ps) where
  at_place : n ≡ length (entries_of t ps)
  at_place = q ∙ sym (entries-length t ps)

  at_end : entries_of t qs ≡ entries_of t ps ++ ((k, t k), v) ∷ []
  at_end = ap (entries_of t) e ∙ entries_of-append t ps ((k, v) ∷ [])

  -- what is written there was inserted
  pub made_entries : (w : V) → IsAbsent t (t k) ps → set_value_at n w (entries_of t qs) ≡ put_entry (k, t k) w (entries_of t ps)
  made_entries w a = (λ i. set_value_at (at_place i) w (at_end i)) ∙ set_value_at-last (entries_of t ps) (k, t k) v w ∙ sym (entries_of-append t ps ((k, w) ∷ [])) ∙ a.put_last k w refl

  pub made_value : (x : V) → nth_value n (entries_of t qs) ≡ Some x → v ≡ x
  made_value x h = let r : Some v ≡ Some x = sym ((λ i. nth_value (at_place i) (at_end i)) ∙ value_at-last (entries_of t ps) (k, t k) v) ∙ h in cc

pub made_length : {K V : Type 0} (t : K → List ℕ) (ps : List (K × V)) (k : K) (w : V) → IsAbsent t (t k) ps → length ps + 1 ≡ length (put_entry (k, t k) w (entries_of t ps))
made_length t ps k w a = let h = ap length (a.put_last k w refl) in omega (arith, h, entries-length t (ps ++ (k, w) ∷ []), length_push ps (k, w))

pub there_length : {K V : Type 0} (t : K → List ℕ) (ps : List (K × V)) (i : ℕ) (k : K) (w : V) → IsFound t (t k) ps i → length (put_entry (k, t k) w (entries_of t ps)) ≡ length (entries_of t ps)
there_length t ps i k w f = ap length (sym (f.there w k refl)) ∙ length-set_value_at i w (entries_of t ps)

pub if_none : {A : Type 0} (P : A → Type 0) (o : Option A) → o ≡ None → IfSome o P
if_none P None e = tt
if_none P (Some x) e = cc

pub if_some : {A : Type 0} (P : A → Type 0) (o : Option A) (x : A) → Some x ≡ o → P x → IfSome o P
if_some P None x e p = cc
if_some P (Some y) x e p = let h : x ≡ y = cc in coe 0 1 (i. P (h i)) p

pub not_both : {A : Type 0} (o : Option A) (x : A) → o ≡ Some x → o ≡ None → ⊥
not_both o x e f = cc
