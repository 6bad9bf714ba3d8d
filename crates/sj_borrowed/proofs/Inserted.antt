-- A value that was lent at a key which is there.
use Rattle.std.proofs.Common.{◌≡◌, ℕ, List, Option, Some, None, IfSome, refl, ap, ◌∙◌, subst}
use Rattle.std.specs.Prelude.{MatchOption}
use Rattle.sj_object.specs.HashMap.{Contents}
use Rattle.sj_object.specs.Edits.{lookup, with_value, with_entry}
use Rattle.sj_borrowed.specs.Loans.{IsInserted}

pub not_both : {A : Type 0} (o : Option A) (v : A) → Some v ≡ o → o ≡ None → ⊥
not_both o v e f = let h : Some v ≡ None = e ∙ f in cc

pub if_there : {A : Type 0} (o : Option A) (v : A) → Some v ≡ o → IfSome o (λ b. v ≡ b)
if_there o v e = subst (λ p. IfSome p (λ b. v ≡ b)) e refl

module _ {K V S : Type 0} (Copied : K → Type 0) (k s : List ℕ) (m : Contents K V S) (v : V) (same : s ≡ k) (there : Some v ≡ lookup s m.entries) where
  pub there_too : Some v ≡ lookup k m.entries
  there_too = there ∙ ap (λ l. lookup l m.entries) same

  pub inserted_there : (w : V) → IsInserted Copied k m (with_value m s w) w
  inserted_there w =
      let P : Option V → Type 0 = λ o. MatchOption o ((copy : K) × Copied copy × (with_value m s w ≡ with_entry m (copy, k) w)) (λ _. with_value m s w ≡ with_value m k w) in
      subst P there_too (ap (λ l. with_value m l w) same)
