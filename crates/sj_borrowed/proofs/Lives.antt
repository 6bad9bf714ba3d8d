-- A lifetime for one call within another. Assumes `Logic`.
use mathlib.Core.List.{[], ◌∷◌}
use seplogic.Ra.Ura.{Ura}
use base.Fraction.{full_share}
use base.FractionLaws.{common}
use base.Logic.{SProp, ent, sep, ex, wand, wand_i, apply∗}
use base.Fml.{Lft, Share, flft, fdead}
use types.Logic.{Logic}
use types.Kit.{‵, raw, ◌⊛◌, ◌$◌, ◌∵◌, !, qed, use1, use2, move, split, show, updating, now, done}
use types.Tokens.{lft_new, lft_end, lft-common}
use contract.BorrowLft.{meet_⊑_left}
use Rattle.std.proofs.Common.{ℕ}

module _ {M : Type 1} {𝓤 : Ura M} (𝓛 : Logic 𝓤) (κ : Lft) (q : Share) where
  open 𝓛 use {H, A}

  -- it is ended, and the token comes back
  abbrev pub Ends : ℕ → Share → SProp 𝓤
  Ends α s = wand 𝓤 (A.lft (α ∷ κ) s) (H.⇛ (sep 𝓤 (A.dead (α ∷ κ)) (A.lft κ q)))

  abbrev Begun : ℕ × Share → SProp 𝓤
  Begun p = sep 𝓤 (A.lft (p.0 ∷ κ) p.1) (Ends p.0 p.1)

  pub begins : ent 𝓤 (A.lft κ q) (H.⇛ (ex 𝓤 Begun))
  begins =
      qed 𝓛 (‵ (flft κ q) ∷ []) ∵ updating ! $ lft_new ! tt (λ α.
      let s : Share = (common full_share q).0 in
      let Back : SProp 𝓤 = wand 𝓤 (A.lft (α ∷ κ) s) (sep 𝓤 (A.lft (α ∷ []) full_share) (A.lft κ q)) in
      use2 𝓛 (‵ (flft (α ∷ κ) s) ⊛ raw Back) (lft-common 𝓛 (α ∷ []) κ full_share q) $ split ! $ move ! (1 ∷ []) $
      use1 𝓛 (raw (Ends α s)) (wand_i 𝓤 Back (A.lft (α ∷ κ) s) _ (qed 𝓛 (raw Back ∷ ‵ (flft (α ∷ κ) s) ∷ []) ∵ updating ! $ move ! (1 ∷ 0 ∷ []) $
      use2 𝓛 (‵ (flft (α ∷ []) full_share) ⊛ ‵ (flft κ q)) (apply∗ 𝓤 (A.lft (α ∷ κ) s) (sep 𝓤 (A.lft (α ∷ []) full_share) (A.lft κ q))) $ split ! $ lft_end ! tt $
      use1 𝓛 (‵ (fdead (α ∷ κ))) (𝓛.lfts.dead-incl (α ∷ κ) (α ∷ []) (meet_⊑_left (α ∷ []) κ)) $ now ! $ done !)) $
      now ! $ show ! Begun (α, s) $ move ! (1 ∷ 0 ∷ []) $ done !)
