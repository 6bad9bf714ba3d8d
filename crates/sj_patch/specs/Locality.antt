-- Operations on what stands at a pointer.
use Rattle.std.specs.Prelude.{◌≡◌, ◌≢◌, ℕ, List, [], ◌∷◌, ◌++◌, map, Some, None, Ok, Err, if◌then◌else◌, ⊤}
use Rattle.std.specs.List.{AllByRecursion}
use Rattle.sj_text_core.specs.Tree.{Tree}
use Rattle.sj_pointer.specs.Pointed.{pointed, set_pointed}
use Rattle.sj_patch.specs.Patch.{PlainOperation, add, remove, replace, move, copy, test, begins, patched_from}
use Rattle.sj_patch.specs.Laws.{then}
use Rattle.sj_text_core.specs.declared.patch_fault.OperationFault.{OperationFault}
use Rattle.sj_text_core.specs.declared.patch_fault.OperationFault.TheVariants.{Missing, IntoItself}

-- the operation with ks in front of each of its pointers
abbrev pub under : List (List ℕ) → PlainOperation → PlainOperation
under ks (add p v) = add (ks ++ p) v
under ks (remove p) = remove (ks ++ p)
under ks (replace p v) = replace (ks ++ p) v
under ks (move from to) = move (ks ++ from) (ks ++ to)
under ks (copy from to) = copy (ks ++ from) (ks ++ to)
under ks (test p v) = test (ks ++ p) v

-- an operation that adds and removes below the root alone: at the root an add replaces the whole and a remove is refused, while where an item stands an add puts another in front of it and a remove takes it out
abbrev pub IsBelow : PlainOperation → Type 0
IsBelow (add p v) = p ≢ []
IsBelow (remove p) = p ≢ []
IsBelow (replace p v) = ⊤
-- what is moved from the root to the root stays
IsBelow (move from to) = to ≡ [] → from ≡ []
IsBelow (copy from to) = to ≢ []
IsBelow (test p v) = ⊤

-- where ks find u, operations with ks in front of their pointers do to the tree what they do without ks to u, put back at ks; the first that fails has the same number and reason
abbrev pub PatchIsLocal : Type 0
PatchIsLocal = (n : ℕ) (ks : List (List ℕ)) (ops : List PlainOperation) (t u : Tree) → pointed ks t ≡ Some u → AllByRecursion IsBelow ops → patched_from n (map (under ks) ops) t ≡ (then) (patched_from n ops u) (λ w. Ok (set_pointed ks w t))

-- why an operation has no result where nothing stands: a move into itself is told by its pointers alone
abbrev pub lost : PlainOperation → OperationFault
lost (move from to) = if begins from to then (if begins to from then Missing else IntoItself) else Missing
lost _ = Missing

-- where ks find nothing, the first of the operations with ks in front of their pointers has no result
abbrev pub PatchedNowhere : Type 0
PatchedNowhere = (n : ℕ) (ks : List (List ℕ)) (op : PlainOperation) (ops : List PlainOperation) (t : Tree) → pointed ks t ≡ None → IsBelow op → patched_from n (map (under ks) (op ∷ ops)) t ≡ Err (n, lost op)
