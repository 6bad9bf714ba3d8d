-- Operations below a pointer that finds nothing.
use Rattle.std.proofs.Common.{◌≡◌, ℕ, suc, Bool, true, false, List, [], ◌∷◌, ◌++◌, map, Option, Some, None, option_and_then, Result, Ok, Err, if◌then◌else◌, refl, ap, ◌∙◌}
use Rattle.std.proofs.lemmas.List.{map-append}
use Rattle.sj_text_core.specs.Tree.{Tree}
use Rattle.sj_text_core.specs.Equal.{tree_eq}
use Rattle.sj_text_core.specs.Paths.{by_token, set_found, tree_at}
use Rattle.sj_text_core.specs.declared.repeats.Repeats.TheVariants.{First}
use Rattle.sj_text_core.proofs.Writes.{tree_at-join}
use Rattle.sj_pointer.specs.Pointed.{path_of, token_into, pointed, set_pointed}
use Rattle.sj_patch.specs.Patch.{PlainOperation, add, remove, replace, move, copy, test, or_missing, onwards, added_in, removed_in, added, removed, stayed, begins, moved, applied, next, patched_from}
use Rattle.sj_patch.specs.Locality.{under, IsBelow, lost}
use Rattle.sj_patch.proofs.Local.{at_tokens, moved-begun}
use Rattle.sj_text_core.specs.declared.patch_fault.OperationFault.{OperationFault}
use Rattle.sj_text_core.specs.declared.patch_fault.OperationFault.TheVariants.{Missing, Differs, IntoItself}

pointed-further : (ks ls : List (List ℕ)) (t : Tree) → pointed ks t ≡ None → pointed (ks ++ ls) t ≡ None
pointed-further ks ls t e = ap (λ p. tree_at p t) (map-append by_token ks ls) ∙ tree_at-join (path_of ks) (path_of ls) t ∙ ap (option_and_then (pointed ls)) e

module _ (f : List ℕ → Tree → Result Tree OperationFault) (k : List ℕ) (p : List (List ℕ)) where
  missing_by : (l : List ℕ) (ks : List (List ℕ)) (t : Tree) (o : Option Tree) → option_and_then (pointed ks) o ≡ None → ((x : Tree) → pointed ks x ≡ None → at_tokens f (ks ++ k ∷ p) x ≡ Err Missing)
      → onwards (or_missing o) (λ x. onwards (at_tokens f (ks ++ k ∷ p) x) (λ w. Ok (set_found (by_token l) w t))) ≡ Err Missing
  missing_by l ks t None e ih = refl
  missing_by l ks t (Some x) e ih = ap (λ r. onwards r (λ w. Ok (set_found (by_token l) w t))) (ih x e)

  missing : (ks : List (List ℕ)) (t : Tree) → pointed ks t ≡ None → at_tokens f (ks ++ k ∷ p) t ≡ Err Missing
  missing [] t e = cc
  missing (l ∷ []) t e = missing_by l [] t (token_into First l t) e (λ x g. missing [] x g)
  missing (l ∷ m ∷ ks) t e = missing_by l (m ∷ ks) t (token_into First l t) e (λ x g. missing (m ∷ ks) x g)

added_missing : (ks : List (List ℕ)) (k : List ℕ) (p : List (List ℕ)) (v t : Tree) → pointed ks t ≡ None → added (ks ++ k ∷ p) v t ≡ Err Missing
added_missing [] k p v t e = cc
added_missing (l ∷ ks) k p v t e = missing (added_in v) k p (l ∷ ks) t e

removed_missing : (ks : List (List ℕ)) (k : List ℕ) (p : List (List ℕ)) (t : Tree) → pointed ks t ≡ None → removed (ks ++ k ∷ p) t ≡ Err Missing
removed_missing [] k p t e = cc
removed_missing (l ∷ ks) k p t e = missing removed_in k p (l ∷ ks) t e

moved_if : (b c : Bool) (r m : Result Tree OperationFault) → r ≡ Err Missing → m ≡ Err Missing → (if b then (if c then r else Err IntoItself) else m) ≡ Err (if b then (if c then Missing else IntoItself) else Missing)
moved_if true true r m e f = e
moved_if true false r m e f = refl
moved_if false c r m e f = f

-- what does not stand there is missing
found_missing : (ks p : List (List ℕ)) (t : Tree) (g : Tree → Result Tree OperationFault) → pointed ks t ≡ None → onwards (or_missing (pointed (ks ++ p) t)) g ≡ Err Missing
found_missing ks p t g e = ap (λ o. onwards (or_missing o) g) (pointed-further ks p t e)

moved_missing : (ks p q : List (List ℕ)) (t : Tree) → pointed ks t ≡ None → moved (ks ++ p) (ks ++ q) t ≡ Err (lost (move p q))
moved_missing ks [] q t e = moved-begun ks [] q t _ _ ∙ first (begins q []) where
  first : (c : Bool) → (if c then stayed (ks ++ []) t else Err IntoItself) ≡ Err (if c then Missing else IntoItself)
  first true = found_missing ks [] t (λ _. Ok t) e
  first false = refl
moved_missing ks (k ∷ p) q t e = moved-begun ks (k ∷ p) q t _ _ ∙ moved_if (begins (k ∷ p) q) (begins q (k ∷ p)) _ _ (found_missing ks (k ∷ p) t (λ _. Ok t) e)
    (ap (λ r. onwards r (λ u. onwards (or_missing (pointed (ks ++ k ∷ p) t)) (λ v. added (ks ++ q) v u))) (removed_missing ks k p t e))

applied_missing : (ks : List (List ℕ)) (op : PlainOperation) (t : Tree) → pointed ks t ≡ None → IsBelow op → applied (under ks op) t ≡ Err (lost op)
applied_missing ks (add [] v) t e h = absurd (h refl)
applied_missing ks (add (k ∷ p) v) t e h = added_missing ks k p v t e
applied_missing ks (remove []) t e h = absurd (h refl)
applied_missing ks (remove (k ∷ p)) t e h = removed_missing ks k p t e
applied_missing ks (replace p v) t e h = found_missing ks p t (λ _. Ok (set_pointed (ks ++ p) v t)) e
applied_missing ks (move p q) t e h = moved_missing ks p q t e
applied_missing ks (copy p q) t e h = found_missing ks p t (λ v. added (ks ++ q) v t) e
applied_missing ks (test p v) t e h = found_missing ks p t (λ u. if tree_eq u v then Ok t else Err Differs) e

pub patched-missing : (n : ℕ) (ks : List (List ℕ)) (op : PlainOperation) (ops : List PlainOperation) (t : Tree) → pointed ks t ≡ None → IsBelow op → patched_from n (map (under ks) (op ∷ ops)) t ≡ Err (n, lost op)
patched-missing n ks op ops t e h = ap (λ r. next n r (patched_from (suc n) (map (under ks) ops))) (applied_missing ks op t e h)
