-- A loan out of a loan, and an `Option` of a reference taken apart and made. Assumes `Logic`.
use Rattle.std.proofs.Common.{◌≡◌, List, [], ◌∷◌, ◌++◌, Option, Some, None, refl}
use mathlib.Core.Path.{subst⁻¹, subst, sym}
use mathlib.Core.Option as maybe
use seplogic.Ra.Ura.{Ura}
use lib.Dec.{T as Holds}
use mir.Syntax.{Ty}
use mir.Val.{Val, WT, has_ty, of_list}
use base.Logic.{ent, emp, sep}
use base.Fml.{GName}
use types.Logic.{Logic, sem}
use types.Kit.{Item, Goal, Seq, ‵, ◌$◌, ◌∵◌, !, qed, use2, move, drop, fsplit, fjoin, fpick, fpack, feq_l, feq_i, done}
use types.Match.{live}
use denote.RattleType.{RattleType, Valss, owns}
use denote.Steps.{nothing}
use denote.Enum.Row.{tagged_with}
use denote.Enum.Enum.{form_of, in_a_row}
use denote.Enum.Declared.{shape}
use denote.Follow.{follows, follows_if, follows_so, follows_by, such_by, followed, follows_then}
use Rattle.std.specs.Option.{IsSome}
use Rattle.std.specs.contracts.option.Option as option

-- what is there is not absent
pub none_there : {A : Type 0} (o : Option A) → None ≡ o → IsSome o → ⊥
none_there None e h = cc
none_there (Some x) e h = cc

-- a value that is known is of the type that it is
pub fits_as : (τ : Ty) {v u : Val} → v ≡ u → Holds (has_ty τ u) × WT u → Holds (has_ty τ v) × WT v
fits_as τ e f = subst (λ (w : Val). Holds (has_ty τ w) × WT w) (sym e) f

module _ {M : Type 1} {𝓤 : Ura M} (𝓛 : Logic 𝓤) (R S T : RattleType) (γ : GName) where
  -- what follows a part follows what that part's part, if any, ends as
  then_if : (γ₁ : GName) (F : S.Denot → R.Denot) (m : maybe.Option GName) (G : T.Denot → S.Denot) (v : S.Denot)
      → ent 𝓤 (sep 𝓤 (sem 𝓛 (follows R S γ γ₁ F)) (sem 𝓛 (follows_if S T γ₁ m G v))) (sem 𝓛 (follows_if R T γ m (λ z. F (G z)) (F v)))
  unfolding follows_by
  then_if γ₁ F maybe.none G v = followed 𝓛 R S F γ γ₁ v
  then_if γ₁ F (maybe.some γ₂) G v = follows_then 𝓛 R S T F G γ γ₁ γ₂

  abbrev Says : (S.Denot → R.Denot → Type 0) → (R.Denot → Type 0) → Type 0
  Says P P₀ = (s : (S.Denot → R.Denot) × R.Denot) × ((w : S.Denot) → P w (s.0 w)) × P₀ s.1

  abbrev Tells : (T.Denot → R.Denot → Type 0) → (R.Denot → Type 0) → Type 0
  Tells Q Q₀ = (s : (T.Denot → R.Denot) × R.Denot) × ((w : T.Denot) → Q w (s.0 w)) × Q₀ s.1

  pub lent_then : (γ₁ : GName) (P : S.Denot → R.Denot → Type 0) (P₀ : R.Denot → Type 0) (m : maybe.Option GName) (G : T.Denot → S.Denot) (v : S.Denot) (Q : T.Denot → R.Denot → Type 0) (Q₀ : R.Denot → Type 0)
      → ((w : T.Denot) (n : R.Denot) → P (G w) n → Q w n) → ((n : R.Denot) → P v n → Q₀ n)
      → ent 𝓤 (sep 𝓤 (sem 𝓛 (follows_so R S γ (maybe.some γ₁) P P₀)) (sem 𝓛 (follows_if S T γ₁ m G v))) (sem 𝓛 (follows_so R T γ m Q Q₀))
  unfolding such_by follows_by
  lent_then γ₁ P P₀ m G v Q Q₀ h h₀ =
      qed 𝓛 (‵ (follows_so R S γ (maybe.some γ₁) P P₀) ∷ ‵ (follows_if S T γ₁ m G v) ∷ []) ∵ fpick ! {X = Says P P₀} {F = λ s. follows R S γ γ₁ s.0.0} (λ s.
      use2 𝓛 (‵ (follows_if R T γ m (λ z. s.0.0 (G z)) (s.0.0 v))) (then_if γ₁ s.0.0 m G v) $
      fpack ! (Tells Q Q₀) (λ t. follows_if R T γ m t.0.0 t.0.1) ((λ z. s.0.0 (G z), s.0.0 v), (λ w. h w _ (s.1 (G w))), h₀ _ (s.1 v)) $ done !)

  pub lent_none : (P : S.Denot → R.Denot → Type 0) (P₀ : R.Denot → Type 0) (Q : T.Denot → R.Denot → Type 0) (Q₀ : R.Denot → Type 0)
      → ((w : T.Denot) (n : R.Denot) → P₀ n → Q w n) → ((n : R.Denot) → P₀ n → Q₀ n)
      → ent 𝓤 (sem 𝓛 (follows_so R S γ maybe.none P P₀)) (sem 𝓛 (follows_so R T γ maybe.none Q Q₀))
  unfolding such_by follows_by
  lent_none P P₀ Q Q₀ h h₀ =
      qed 𝓛 (‵ (follows_so R S γ maybe.none P P₀) ∷ []) ∵ fpick ! {X = Says P P₀} {F = λ s. follows_if R S γ maybe.none s.0.0 s.0.1} (λ s.
      fpack ! (Tells Q Q₀) (λ t. follows_if R T γ maybe.none t.0.0 t.0.1) ((λ z. s.0.1, s.0.1), (λ w. h w _ s.2), h₀ _ s.2) $ done !)

  pub lent_weaker : (m : maybe.Option GName) (P : S.Denot → R.Denot → Type 0) (P₀ : R.Denot → Type 0) (Q : S.Denot → R.Denot → Type 0) (Q₀ : R.Denot → Type 0)
      → ((w : S.Denot) (n : R.Denot) → P w n → Q w n) → ((n : R.Denot) → P₀ n → Q₀ n)
      → ent 𝓤 (sem 𝓛 (follows_so R S γ m P P₀)) (sem 𝓛 (follows_so R S γ m Q Q₀))
  unfolding such_by
  lent_weaker m P P₀ Q Q₀ h h₀ =
      qed 𝓛 (‵ (follows_so R S γ m P P₀) ∷ []) ∵ fpick ! {X = Says P P₀} {F = λ s. follows_if R S γ m s.0.0 s.0.1} (λ s.
      fpack ! (Says Q Q₀) (λ t. follows_if R S γ m t.0.0 t.0.1) (s.0, (λ w. h w _ (s.1 w)), h₀ _ s.2) $ done !)

module _ {M : Type 1} {𝓤 : Ura M} (𝓛 : Logic 𝓤) (X : RattleType) where
  pub some_in : (x : X.Denot) (v : Val) → ent 𝓤 (sem 𝓛 (X.own_val x (v ∷ []))) (sem 𝓛 ((option.the_row X).own_val (Some x) (live 1 (of_list (v ∷ [])) ∷ [])))
  some_in x v =
      qed 𝓛 (‵ (X.own_val x (v ∷ [])) ∷ []) ∵ nothing ! $ move ! (1 ∷ 0 ∷ []) $ fjoin ! $ feq_i ! (List Val) (v ∷ []) (v ∷ []) refl $ fjoin ! $
      fpack ! (Valss (X ∷ [])) (in_a_row (X ∷ []) (owns (X ∷ []) (x, tt)) (v ∷ [])) (v ∷ [], tt) $
      feq_i ! (List Val) (live 1 (of_list (v ∷ [])) ∷ []) (live 1 (of_list (v ∷ [])) ∷ []) refl $ fjoin ! $
      fpack ! (List Val) (tagged_with (form_of (shape (option.the_type X))) (form_of (shape (option.the_type X))).payload ((option.the_type X).to (Some x)) (live 1 (of_list (v ∷ [])) ∷ [])) (v ∷ []) $ done !

  pub none_in : ent 𝓤 (emp 𝓤) (sem 𝓛 ((option.the_row X).own_val None (live 0 (of_list []) ∷ [])))
  none_in =
      qed 𝓛 [] ∵ nothing ! $ feq_i ! (List Val) [] [] refl $ fjoin ! $ fpack ! (Valss []) (in_a_row [] (owns [] tt) []) tt $
      feq_i ! (List Val) (live 0 (of_list []) ∷ []) (live 0 (of_list []) ∷ []) refl $ fjoin ! $
      fpack ! (List Val) (tagged_with (form_of (shape (option.the_type X))) (form_of (shape (option.the_type X))).payload ((option.the_type X).to None) (live 0 (of_list []) ∷ [])) [] $ done !

module _ {M : Type 1} {𝓤 : Ura M} {𝓛 : Logic 𝓤} {K : Type 0} {Γ : List (Item 𝓤)} {G : Goal 𝓤 𝓛.H} (t : K) (X : RattleType) where
  none_out : (vs : List Val) → (vs ≡ live 0 (of_list []) ∷ [] → Seq K 𝓛 Γ G) → Seq K 𝓛 (‵ ((option.the_row X).own_val None vs) ∷ Γ) G
  none_out vs k = fpick t (λ us. fsplit t $ feq_l t (λ e. fpick t (λ vss. fsplit t $ feq_l t (λ e'. drop t $ k (subst⁻¹ (λ (ws : List Val). vs ≡ live 0 (of_list ws) ∷ [] → vs ≡ live 0 (of_list []) ∷ []) e' (λ p. p) e)))))

  some_out : (x : X.Denot) (vs : List Val) → ((xs : List Val) → vs ≡ live 1 (of_list (xs ++ [])) ∷ [] → Seq K 𝓛 (‵ (X.own_val x xs) ∷ Γ) G) → Seq K 𝓛 (‵ ((option.the_row X).own_val (Some x) vs) ∷ Γ) G
  some_out x vs k = fpick t (λ us. fsplit t $ feq_l t (λ e. fpick t (λ vss. fsplit t $ feq_l t (λ e'. fsplit t $ move t (1 ∷ []) $ drop t $
      k vss.0 (subst⁻¹ (λ (ws : List Val). vs ≡ live 1 (of_list ws) ∷ [] → vs ≡ live 1 (of_list (vss.0 ++ [])) ∷ []) e' (λ p. p) e)))))

  pub option_out : (r : Option X.Denot) (vs : List Val) → (r ≡ None → vs ≡ live 0 (of_list []) ∷ [] → Seq K 𝓛 Γ G)
      → ((x : X.Denot) (xs : List Val) → r ≡ Some x → vs ≡ live 1 (of_list (xs ++ [])) ∷ [] → Seq K 𝓛 (‵ (X.own_val x xs) ∷ Γ) G) → Seq K 𝓛 (‵ ((option.the_row X).own_val r vs) ∷ Γ) G
  option_out None vs n s = none_out vs (n refl)
  option_out (Some x) vs n s = some_out x vs (λ xs. s x xs refl)
