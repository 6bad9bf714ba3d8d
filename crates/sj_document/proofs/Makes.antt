-- Values taken over one by one.
use Rattle.std.proofs.Common.{◌≡◌, List, [], ◌∷◌, ◌++◌, refl, sym, subst}
use Rattle.sj_document.specs.SameWith.{SameEach}

module _ {D X : Type 0} (R : D → X → Type 0) where
  each_last : (ds : List D) (xs : List X) (d : D) (x : X) → SameEach R ds xs → R d x → SameEach R (ds ++ d ∷ []) (xs ++ x ∷ [])
  each_last [] [] d x h r = (r, refl)
  each_last [] (y ∷ ys) d x h r = absurd (cc)
  each_last (e ∷ ds) [] d x h r = absurd h
  each_last (e ∷ ds) (y ∷ ys) d x h r = (h.0, each_last ds ys d x h.1 r)

  pub each_more : (ds es : List D) (xs : List X) (d : D) (x : X) → SameEach R ds xs → R d x → es ≡ ds ++ d ∷ [] → SameEach R es (xs ++ x ∷ [])
  each_more ds es xs d x h r e = subst (λ l. SameEach R l (xs ++ x ∷ [])) (sym e) (each_last ds xs d x h r)
