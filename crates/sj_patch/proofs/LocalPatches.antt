-- Operations, one after another, on what stands at a pointer.
use Rattle.std.proofs.Common.{◌≡◌, ℕ, suc, List, [], ◌∷◌, map, Some, Result, Ok, Err, refl, sym, ap, ◌∙◌}
use Rattle.std.specs.List.{AllByRecursion}
use Rattle.sj_text_core.specs.Tree.{Tree}
use Rattle.sj_text_core.proofs.Writes.{tree_at-set, set_at-same, set_at-twice}
use Rattle.sj_pointer.specs.Pointed.{path_of, pointed, set_pointed}
use Rattle.sj_patch.specs.Patch.{PlainOperation, onwards, applied, next, patched_from}
use Rattle.sj_patch.specs.Laws.{then}
use Rattle.sj_patch.specs.Locality.{under, IsBelow}
use Rattle.sj_patch.proofs.Local.{back, applied-below}
use Rattle.sj_text_core.specs.declared.patch_fault.OperationFault.{OperationFault}

then_twice : (ks : List (List ℕ)) (w t : Tree) (r : Result Tree (ℕ × OperationFault)) → then r (λ x. Ok (set_pointed ks x (set_pointed ks w t))) ≡ then r (λ x. Ok (set_pointed ks x t))
then_twice ks w t (Ok u) = ap Ok (set_at-twice (path_of ks) u w t)
then_twice ks w t (Err e) = refl

next_by : (n : ℕ) (ks : List (List ℕ)) (ops : List PlainOperation) (t u : Tree) (r : Result Tree OperationFault) → pointed ks t ≡ Some u
    → ((s w : Tree) → pointed ks s ≡ Some w → patched_from (suc n) (map (under ks) ops) s ≡ then (patched_from (suc n) ops w) (λ x. Ok (set_pointed ks x s)))
    → next n (onwards r (back ks t)) (patched_from (suc n) (map (under ks) ops)) ≡ then (next n r (patched_from (suc n) ops)) (λ x. Ok (set_pointed ks x t))
next_by n ks ops t u (Ok w) e ih = ih (set_pointed ks w t) w (tree_at-set (path_of ks) w u t e) ∙ then_twice ks w t (patched_from (suc n) ops w)
next_by n ks ops t u (Err w) e ih = refl

-- operations one after another
pub patched-below : (n : ℕ) (ks : List (List ℕ)) (ops : List PlainOperation) (t u : Tree) → pointed ks t ≡ Some u → AllByRecursion IsBelow ops
    → patched_from n (map (under ks) ops) t ≡ then (patched_from n ops u) (λ w. Ok (set_pointed ks w t))
patched-below n ks [] t u e h = ap Ok (sym (set_at-same (path_of ks) u t e))
patched-below n ks (op ∷ ops) t u e h =
    ap (λ r. next n r (patched_from (suc n) (map (under ks) ops))) (applied-below ks op t u e h.0) ∙ next_by n ks ops t u (applied op u) e (λ s w f. patched-below (suc n) ks ops s w f h.1)
