-- Patches in two runs.
use Rattle.std.proofs.Common.{◌≡◌, ◌+◌, ℕ, suc, List, [], ◌∷◌, ◌++◌, length, Result, Ok, Err, refl, ap, arith}
use Rattle.sj_text_core.specs.Tree.{Tree}
use Rattle.sj_patch.specs.Patch.{PlainOperation, applied, next, patched_from}
use Rattle.sj_patch.specs.Laws.{then}
use Rattle.sj_text_core.specs.declared.patch_fault.OperationFault.{OperationFault}

by_first : (n m : ℕ) (r : Result Tree OperationFault) (xs ys : List PlainOperation) → ((u : Tree) → patched_from (suc n) (xs ++ ys) u ≡ then (patched_from (suc n) xs u) (λ v. patched_from m ys v))
    → next n r (patched_from (suc n) (xs ++ ys)) ≡ then (next n r (patched_from (suc n) xs)) (λ v. patched_from m ys v)
by_first n m (Ok u) xs ys ih = ih u
by_first n m (Err w) xs ys ih = refl

pub joined : (n m : ℕ) (xs ys : List PlainOperation) (t : Tree) → m ≡ n + length xs → patched_from n (xs ++ ys) t ≡ then (patched_from n xs t) (λ u. patched_from m ys u)
joined n m [] ys t e = let same : n ≡ m = omega (arith, e) in ap (λ k. patched_from k ys t) same
joined n m (x ∷ xs) ys t e = by_first n m (applied x t) xs ys (λ u. joined (suc n) m xs ys u (omega (arith, e)))
