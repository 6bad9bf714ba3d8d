-- A loan out of a loan where relations say both, and a `Result` of a reference taken apart. Assumes `Logic`.
use Rattle.std.proofs.Common.{◌≡◌, List, [], ◌∷◌, ◌++◌, Option, Some, None, Result, Ok, Err, refl}
use mathlib.Core.Path.{subst⁻¹}
use mathlib.Core.Option as maybe
use seplogic.Ra.Ura.{Ura}
use lib.Dec.{T as Holds}
use mir.Syntax.{Ty}
use mir.Val.{Val, WT, has_ty, of_list}
use base.Logic.{ent, sep}
use base.Fml.{GName}
use types.Logic.{Logic, sem}
use types.Kit.{Item, Goal, Seq, ‵, ◌$◌, ◌∵◌, !, qed, use2, move, drop, fsplit, fpick, feq_l, done}
use types.Match.{live}
use denote.RattleType.{RattleType}
use denote.Laws.{Lawful, Typed}
use denote.Enum.Enum as sum
use denote.Enum.Declared.{shape}
use denote.Struct.Recorded.{recorded_lawful}
use denote.Follow.{follows_if, follows_so, such_by}
use Rattle.std.specs.Option.{OnSome}
use Rattle.std.specs.contracts.option.Option as option
use Rattle.std.specs.contracts.result.Result as result
use Rattle.sj_document.proofs.Loans.{lent_then}

-- what is of one type is one value of that type
pub typed_one : (τ : Ty) (vs : List Val) → Typed (τ ∷ []) vs → (v : Val) × (vs ≡ v ∷ []) × (Holds (has_ty τ v) × WT v)
typed_one τ [] t = absurd t
typed_one τ (v ∷ []) t = (v, refl, t.0)
typed_one τ (v ∷ u ∷ us) t = absurd t.1

pub on_some : {A : Type 0} {P Q : Type 0} (o : Option A) → (P → Q) → OnSome o P → OnSome o Q
on_some None f h = tt
on_some (Some x) f h = f h

module _ {M : Type 1} {𝓤 : Ura M} (𝓛 : Logic 𝓤) (R S T : RattleType) (γ : GName) where
  abbrev Shown : (T.Denot → S.Denot → Type 0) → (S.Denot → Type 0) → Type 0
  Shown P P₀ = (s : (T.Denot → S.Denot) × S.Denot) × ((w : T.Denot) → P w (s.0 w)) × P₀ s.1

  pub lent_so : (γ₁ : GName) (P : S.Denot → R.Denot → Type 0) (P₀ : R.Denot → Type 0) (m : maybe.Option GName) (P₁ : T.Denot → S.Denot → Type 0) (P₂ : S.Denot → Type 0) (Q : T.Denot → R.Denot → Type 0) (Q₀ : R.Denot → Type 0)
      → ((w : T.Denot) (s : S.Denot) (n : R.Denot) → P₁ w s → P s n → Q w n) → ((s : S.Denot) (n : R.Denot) → P₂ s → P s n → Q₀ n)
      → ent 𝓤 (sep 𝓤 (sem 𝓛 (follows_so R S γ (maybe.some γ₁) P P₀)) (sem 𝓛 (follows_so S T γ₁ m P₁ P₂))) (sem 𝓛 (follows_so R T γ m Q Q₀))
  unfolding such_by
  lent_so γ₁ P P₀ m P₁ P₂ Q Q₀ h h₀ =
      qed 𝓛 (‵ (follows_so R S γ (maybe.some γ₁) P P₀) ∷ ‵ (follows_so S T γ₁ m P₁ P₂) ∷ []) ∵ move ! (1 ∷ []) $ fpick ! {X = Shown P₁ P₂} {F = λ s. follows_if S T γ₁ m s.0.0 s.0.1} (λ s.
      move ! (1 ∷ 0 ∷ []) $ use2 𝓛 (‵ (follows_so R T γ m Q Q₀)) (lent_then 𝓛 R S T γ γ₁ P P₀ m s.0.0 s.0.1 Q Q₀ (λ w n p. h w (s.0.0 w) n (s.1 w) p) (λ n p. h₀ s.0.1 n s.2 p)) $ done !)

module _ {M : Type 1} {𝓤 : Ura M} (𝓛 : Logic 𝓤) where
  -- what is owned of an `Option` or a `Result` is of its type, where its parts are of theirs
  pub option_lawful : (X : RattleType) → Lawful 𝓛 X → Lawful 𝓛 (option.the_row X)
  option_lawful X L = let T = option.the_type X in recorded_lawful (sum.Enum (shape T)) T.D T.to T.to_one 𝓛 (sum.Enum-Lawful 𝓛 (shape T) tt (tt, ((L, tt), tt)))

  pub result_lawful : (X Y : RattleType) → Lawful 𝓛 X → Lawful 𝓛 Y → Lawful 𝓛 (result.the_row X Y)
  result_lawful X Y L K = let T = result.the_type X Y in recorded_lawful (sum.Enum (shape T)) T.D T.to T.to_one 𝓛 (sum.Enum-Lawful 𝓛 (shape T) tt ((L, tt), ((K, tt), tt)))

module _ {M : Type 1} {𝓤 : Ura M} {𝓛 : Logic 𝓤} {K : Type 0} {Γ : List (Item 𝓤)} {G : Goal 𝓤 𝓛.H} (t : K) (X Y : RattleType) where
  ok_out : (x : X.Denot) (vs : List Val) → ((xs : List Val) → vs ≡ live 0 (of_list (xs ++ [])) ∷ [] → Seq K 𝓛 (‵ (X.own_val x xs) ∷ Γ) G) → Seq K 𝓛 (‵ ((result.the_row X Y).own_val (Ok x) vs) ∷ Γ) G
  ok_out x vs k = fpick t (λ us. fsplit t $ feq_l t (λ e. fpick t (λ vss. fsplit t $ feq_l t (λ e'. fsplit t $ move t (1 ∷ []) $ drop t $
      k vss.0 (subst⁻¹ (λ (ws : List Val). vs ≡ live 0 (of_list ws) ∷ [] → vs ≡ live 0 (of_list (vss.0 ++ [])) ∷ []) e' (λ p. p) e)))))

  err_out : (y : Y.Denot) (vs : List Val) → ((ys : List Val) → vs ≡ live 1 (of_list (ys ++ [])) ∷ [] → Seq K 𝓛 (‵ (Y.own_val y ys) ∷ Γ) G) → Seq K 𝓛 (‵ ((result.the_row X Y).own_val (Err y) vs) ∷ Γ) G
  err_out y vs k = fpick t (λ us. fsplit t $ feq_l t (λ e. fpick t (λ vss. fsplit t $ feq_l t (λ e'. fsplit t $ move t (1 ∷ []) $ drop t $
      k vss.0 (subst⁻¹ (λ (ws : List Val). vs ≡ live 1 (of_list ws) ∷ [] → vs ≡ live 1 (of_list (vss.0 ++ [])) ∷ []) e' (λ p. p) e)))))

  pub result_out : (r : Result X.Denot Y.Denot) (vs : List Val) → ((x : X.Denot) (xs : List Val) → r ≡ Ok x → vs ≡ live 0 (of_list (xs ++ [])) ∷ [] → Seq K 𝓛 (‵ (X.own_val x xs) ∷ Γ) G)
      → ((y : Y.Denot) (ys : List Val) → r ≡ Err y → vs ≡ live 1 (of_list (ys ++ [])) ∷ [] → Seq K 𝓛 (‵ (Y.own_val y ys) ∷ Γ) G) → Seq K 𝓛 (‵ ((result.the_row X Y).own_val r vs) ∷ Γ) G
  result_out (Ok x) vs f g = ok_out x vs (λ xs. f x xs refl)
  result_out (Err y) vs f g = err_out y vs (λ ys. g y ys refl)
