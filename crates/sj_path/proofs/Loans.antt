-- A reference that is lent as it is, and one that is lent to be read. Assumes `Logic`.
use Rattle.std.proofs.Common.{ℕ, List, [], ◌∷◌, refl, MutBor}
use mathlib.Core.Option as maybe
use seplogic.Ra.Ura.{Ura}
use base.Fraction.{full_share}
use base.FractionLaws.{common}
use base.Share
use base.Logic.{SProp, ent, sep, emp, wand, apply∗}
use base.Fml.{GName, Lft, Share, Fml, Incl-trans, feq, fsep, fex, fres, fauth, fobs, flft, fdead, fobor, flent}
use contract.BorrowLft.{◌⊑◌, meet_⊑_left, meet_⊑_right}
use mir.Syntax.{Lifetime}
use mir.Val.{Val}
use types.Logic.{Logic, sem}
use types.Kit.{Item, ‵, raw, ◌⊛◌, later, mean, ◌$◌, ◌∵◌, !, qed, each, assume, fjoin, fjoin3, fpack, feq_i, feq_l, fsplit3, use0, use1, use2, move, split, await, updating, now, frame, done}
use types.SemTy.{Body}
use types.Tokens.{lft_end, lft-common, lent_back}
use types.Mut.{open_ref, close_ref}
use denote.Lend.{lends_shr}
use denote.Memory.{mem, part_at}
use denote.Param.Laws.{Laws}
use denote.RattleType.{RattleType}
use denote.Ref.{MutRef, ShrRef, mut_vals, as_bor}
use denote.Follow.{follows, follows_so, such_by, follows_by}

module _ {M : Type 1} {𝓤 : Ura M} (𝓛 : Logic 𝓤) (R : RattleType) (γ : GName) where
  open 𝓛 use {A}

  -- what a name follows is its own last value
  follows_itself : ent 𝓤 (emp 𝓤) (sem 𝓛 (follows R R γ γ (λ w. w)))
  follows_itself =
      let From : R.Denot → R.Denot → Fml = λ z w. fsep (feq R.Denot z w) (fauth γ (R.coded.code w)) in
      let said = qed 𝓛 [] ∵ each ! (λ (w : R.Denot). wand 𝓤 (A.res γ (R.coded.code w)) (A.res γ (R.coded.code w))) (λ w. assume ! (‵ (fres γ (R.coded.code w))) $ done !) in
      let back = qed 𝓛 [] ∵ each ! (λ (z : R.Denot). wand 𝓤 (A.auth γ (R.coded.code z)) (sem 𝓛 (fex R.Denot (From z)))) (λ z. assume ! (‵ (fauth γ (R.coded.code z))) $ feq_i ! R.Denot z z refl $ fjoin ! $ fpack ! R.Denot (From z) z $ done !) in
      record { apply = λ a p. (said.apply a p, back.apply a p) }

  abbrev Says : (R.Denot → R.Denot → Type 0) → (R.Denot → Type 0) → Type 0
  Says P P₀ = (s : (R.Denot → R.Denot) × R.Denot) × ((w : R.Denot) → P w (s.0 w)) × P₀ s.1

  -- whoever has the reference itself writes all of what it points at
  pub lent_itself : (v : R.Denot) (P : R.Denot → R.Denot → Type 0) (P₀ : R.Denot → Type 0) → ((w : R.Denot) → P w w) → P₀ v
      → ent 𝓤 (emp 𝓤) (sem 𝓛 (follows_so R R γ (maybe.some γ) P P₀))
  unfolding such_by follows_by
  lent_itself v P P₀ h h₀ =
      qed 𝓛 [] ∵ use0 𝓛 (‵ (follows R R γ γ (λ w. w))) follows_itself $
      fpack ! (Says P P₀) (λ s. follows R R γ γ s.0.0) ((λ w. w, v), h, h₀) $ done !

-- A `&mut` is lent as a `&` while a call reads it, for a lifetime α that begins and ends with the call.
-- the share at which the call has a token of both lifetimes
abbrev pub in_common : Share → Share
in_common q = (common full_share (Share.right q)).0

module _ {M : Type 1} {𝓤 : Ura M} (𝓛 : Logic 𝓤) (R : RattleType) (κ : Lft) (q : Share) (α : ℕ) (x : MutBor R.Denot) where
  open 𝓛 use {H, A}

  abbrev Tokens : SProp 𝓤
  Tokens = sep 𝓤 (A.lft (α ∷ []) full_share) (A.lft κ (Share.right q))

  -- what the lender keeps
  abbrev pub Kept : Item 𝓤
  Kept = ‵ (flent (α ∷ κ) (part_at R full_share x.now x.ref_ptr.0 x.ref_ptr.1)) ⊛ ‵ (fobor κ (Share.left q) (Body (mem R) x.ref_ptr.0 x.ref_ptr.1 x.ghost_name))
      ⊛ ‵ (fobs x.ghost_name (R.coded.code x.now)) ⊛ ‵ (fauth x.ghost_name (R.coded.code x.now)) ⊛ raw (wand 𝓤 (A.lft (α ∷ κ) (in_common q)) Tokens)

  pub lends_to_read : (ℓ ℓ' : Lifetime) → Laws R → κ ⊑ R.lives → ent 𝓤 (sep 𝓤 (sem 𝓛 ((MutRef ℓ κ R).own_val x (mut_vals x))) (sep 𝓤 (A.lft κ q) (A.lft (α ∷ []) full_share)))
      (H.⇛ (sep 𝓤 (sem 𝓛 ((ShrRef ℓ' (α ∷ κ) R).own_val (as_bor x) (mut_vals x))) (sep 𝓤 (A.lft (α ∷ κ) (in_common q)) (mean 𝓛 Kept))))
  lends_to_read ℓ ℓ' L within =
      qed 𝓛 (‵ ((MutRef ℓ κ R).own_val x (mut_vals x)) ∷ ‵ (flft κ q) ∷ ‵ (flft (α ∷ []) full_share) ∷ []) ∵ updating ! $
      move ! (1 ∷ []) $ use1 𝓛 (‵ (flft κ (Share.left q)) ⊛ ‵ (flft κ (Share.right q))) (𝓛.lfts.lft_split κ q) $ split ! $
      move ! (3 ∷ 1 ∷ []) $ use2 𝓛 (‵ (flft (α ∷ κ) (in_common q)) ⊛ raw (wand 𝓤 (A.lft (α ∷ κ) (in_common q)) Tokens)) (lft-common 𝓛 (α ∷ []) κ full_share (Share.right q)) $ split ! $
      -- [the common token; the way back; the left half; the reference]
      move ! (3 ∷ []) $ fsplit3 ! $ feq_l ! (λ _. move ! (0 ∷ 1 ∷ 4 ∷ []) $ open_ref ! tt (mem R) $
      -- [what it points at; the open borrow; obs; auth; the common token; the way back]
      move ! (0 ∷ 4 ∷ []) $ use2 𝓛 (later ((‵ ((ShrRef ℓ' (α ∷ κ) R).own_val (as_bor x) (mut_vals x)) ⊛ ‵ (flent (α ∷ κ) (part_at R full_share x.now x.ref_ptr.0 x.ref_ptr.1))) ⊛ ‵ (flft (α ∷ κ) (in_common q))))
      (lends_shr 𝓛 R ℓ' (α ∷ κ) full_share x.now x.ref_ptr.0 x.ref_ptr.1 R.lives (L.shares 𝓛 x.now) ((α ∷ κ, in_common q) ∷ []) (Incl-trans (meet_⊑_right (α ∷ []) κ) within) (λ a m. m)) $ await ! tt $ split ! $ split ! $ now ! $
      frame ! $ move ! (1 ∷ []) $ frame ! $ done !)

  pub comes_back_read : (ℓ : Lifetime) → ent 𝓤 (sep 𝓤 (A.lft (α ∷ κ) (in_common q)) (mean 𝓛 Kept)) (H.⇛ (sep 𝓤 (sem 𝓛 ((MutRef ℓ κ R).own_val x (mut_vals x))) (A.lft κ q)))
  comes_back_read ℓ =
      qed 𝓛 (‵ (flft (α ∷ κ) (in_common q)) ∷ Kept ∷ []) ∵ updating ! $
      move ! (1 ∷ []) $ split ! $ move ! (1 ∷ []) $ split ! $ move ! (1 ∷ []) $ split ! $ move ! (1 ∷ []) $ split ! $
      -- [auth; the way back; obs; the open borrow; the lender's right; the common token]
      move ! (5 ∷ 1 ∷ []) $ use2 𝓛 (‵ (flft (α ∷ []) full_share) ⊛ ‵ (flft κ (Share.right q))) (apply∗ 𝓤 (A.lft (α ∷ κ) (in_common q)) Tokens) $ split ! $
      lft_end ! tt $ use1 𝓛 (‵ (fdead (α ∷ κ))) (𝓛.lfts.dead-incl (α ∷ κ) (α ∷ []) (meet_⊑_left (α ∷ []) κ)) $
      -- [the loan is over; the right half; auth; obs; the open borrow; the lender's right]
      move ! (0 ∷ 5 ∷ []) $ lent_back ! tt $ move ! (0 ∷ 4 ∷ 3 ∷ 2 ∷ []) $ close_ref ! tt (mem R) x.now $
      -- [obs; the borrow; the left half; the right half]
      move ! (2 ∷ 3 ∷ []) $ use2 𝓛 (‵ (flft κ q)) (𝓛.lfts.lft_join κ q) $ now ! $ move ! (1 ∷ 2 ∷ []) $
      feq_i ! (List Val) (mut_vals x) (mut_vals x) refl $ fjoin3 ! $ done !
