-- Steps in a row, and what is filled below tokens.
use Rattle.std.proofs.Common.{◌≡◌, ◌≤◌, ℕ, false, List, [], ◌∷◌, ◌++◌, Option, Some, None, option_map, unwrap_or, Result, Ok, Err, refl, sym, ap, ◌∙◌, arith}
use Rattle.std.proofs.lemmas.Bool.Decides.{nat_tests}
use Rattle.sj_text_core.specs.Tree.{Tree}
use Rattle.sj_text_core.proofs.Writes.{tree_at-set, set_at-same, set_at-twice}
use Rattle.sj_pointer.specs.Pointed.{path_of, pointed, set_pointed}
use Rattle.sj_text_core.specs.declared.patch_fault.OperationFault.{OperationFault}
use Rattle.sj_patch.specs.Patch.{onwards, or_missing}
use Rattle.sj_patch.specs.inner.Changed.{stepped, filled_below, or_same, at_tokens, is_placed}
use Rattle.sj_patch.proofs.Within.{at-last}

-- the last step is the first one taken
pub stepped-last : {G : Type 0} (step : G → Tree → Tree) (gs : List G) (g : G) (u : Tree) → stepped step (gs ++ g ∷ []) u ≡ stepped step gs (step g u)
stepped-last step [] g u = refl
stepped-last step (x ∷ xs) g u = ap (step x) (stepped-last step xs g u)

-- where no step does anything
pub stepped-none : {G : Type 0} (step : G → Tree → Tree) (gs : List G) (u : Tree) → ((g : G) → step g u ≡ u) → stepped step gs u ≡ u
stepped-none step [] u h = refl
stepped-none step (x ∷ xs) u h = ap (step x) (stepped-none step xs u h) ∙ h x

-- where tokens find something
pub filled-there : (f : Tree → Tree) (ks : List (List ℕ)) (c u : Tree) → pointed ks u ≡ Some c → filled_below f ks u ≡ set_pointed ks (f c) u
filled-there f ks c u e = ap (λ o. unwrap_or (option_map (λ c. set_pointed ks (f c) u) o) u) e

-- what fills as before after what was found has changed
pub filled-after : (f g : Tree → Tree) (ks : List (List ℕ)) (before after u v : Tree) → pointed ks before ≡ Some u → after ≡ set_pointed ks v before → g v ≡ f u → filled_below g ks after ≡ filled_below f ks before
filled-after f g ks before after u v p e h =
    let path = path_of ks in
    ap (filled_below g ks) e ∙ filled-there g ks v (set_pointed ks v before) (tree_at-set path v u before p) ∙ set_at-twice path (g v) v before
    ∙ ap (λ x. set_pointed ks x before) h ∙ sym (filled-there f ks u before p)

-- what fills alike
pub filled-alike : (f g : Tree → Tree) (ks : List (List ℕ)) (u : Tree) → ((c : Tree) → f c ≡ g c) → filled_below f ks u ≡ filled_below g ks u
filled-alike f g ks u h = alike_by (pointed ks u) where
  alike_by : (o : Option Tree) → unwrap_or (option_map (λ c. set_pointed ks (f c) u) o) u ≡ unwrap_or (option_map (λ c. set_pointed ks (g c) u) o) u
  alike_by None = refl
  alike_by (Some c) = ap (λ x. set_pointed ks x u) (h c)

same_by : (f : List ℕ → Tree → Result Tree OperationFault) (g : Tree → Tree) (ls : List (List ℕ)) (k : List ℕ) (u c : Tree) (r : Result Tree OperationFault) → pointed ls u ≡ Some c → g c ≡ or_same c r
    → set_pointed ls (g c) u ≡ or_same u (onwards r (λ w. Ok (set_pointed ls w u)))
same_by f g ls k u c (Ok w) p h = ap (λ x. set_pointed ls x u) h
same_by f g ls k u c (Err w) p h = ap (λ x. set_pointed ls x u) h ∙ set_at-same (path_of ls) c u p

below_by : (f : List ℕ → Tree → Result Tree OperationFault) (g : Tree → Tree) (ls : List (List ℕ)) (k : List ℕ) (u : Tree) (o : Option Tree) → pointed ls u ≡ o → ((c : Tree) → g c ≡ or_same c (f k c))
    → unwrap_or (option_map (λ c. set_pointed ls (g c) u) o) u ≡ or_same u (onwards (or_missing o) (λ c. onwards (f k c) (λ w. Ok (set_pointed ls w u))))
below_by f g ls k u None p h = refl
below_by f g ls k u (Some c) p h = same_by f g ls k u c (f k c) p (h c)

-- one that is filled at the last of tokens is filled below the others
pub filled-last : (x : Result Tree OperationFault) (f : List ℕ → Tree → Result Tree OperationFault) (g : Tree → Tree) (ls : List (List ℕ)) (k : List ℕ) (u : Tree) → ((c : Tree) → g c ≡ or_same c (f k c))
    → filled_below g ls u ≡ or_same u (at_tokens x f (ls ++ k ∷ []) u)
filled-last x f g ls k u h = below_by f g ls k u (pointed ls u) refl h ∙ ap (or_same u) (sym (at-last x f ls k u))

-- nothing has a place where all are taken
pub full : (len n i : ℕ) → n ≤ len → is_placed len n i ≡ false
full len n i h = grind (arith, nat_tests)
