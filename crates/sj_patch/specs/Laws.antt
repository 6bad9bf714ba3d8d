-- What holds of patches.
use Rattle.std.specs.Prelude.{◌≡◌, ◌≢◌, ◌+◌, ℕ, false, List, [], ◌∷◌, ◌++◌, length, Result, Ok, Err, ⊤}
use Rattle.std.specs.List.{AllByRecursion}
use Rattle.sj_text_core.specs.Tree.{Tree}
use Rattle.sj_text_core.specs.Same.{Same}
use Rattle.sj_text_core.specs.Keep.{IsSingle}
use Rattle.sj_pointer.specs.Pointed.{pointed}
use Rattle.sj_patch.specs.Patch.{PlainOperation, add, remove, replace, move, onwards, or_missing, begins, applied, patched_from}
use Rattle.sj_text_core.specs.declared.patch_fault.OperationFault.{OperationFault}

-- f of the tree, or the fault that there was
abbrev pub then : Result Tree (ℕ × OperationFault) → (Tree → Result Tree (ℕ × OperationFault)) → Result Tree (ℕ × OperationFault)
then (Ok t) f = f t
then (Err e) f = Err e

-- operations may be applied in two runs, the second on what the first left
abbrev pub PatchesJoin : Type 0
PatchesJoin = (n : ℕ) (xs ys : List PlainOperation) (t : Tree) → patched_from n (xs ++ ys) t ≡ then (patched_from n xs t) (λ u. patched_from (n + length xs) ys u)

-- trees that are the same, or one fault
abbrev pub SameOutcome : {E : Type 0} → Result Tree E → Result Tree E → Type 0
SameOutcome {E} (Ok t) (Ok u) = Same t u
SameOutcome {E} (Err e) (Err d) = e ≡ d
SameOutcome {E} _ _ = ⊥

-- below the root a replace does what a remove and then an add do there, but for the order of members: one that is removed and added goes last
abbrev pub ReplaceIsRemoveAdd : Type 0
ReplaceIsRemoveAdd = (n : ℕ) (ks : List (List ℕ)) (v t : Tree) → ks ≢ [] → SameOutcome (patched_from n (replace ks v ∷ []) t) (patched_from n (remove ks ∷ add ks v ∷ []) t)

-- what stands at from removed, and then added at to
abbrev pub removed_added : List (List ℕ) → List (List ℕ) → Tree → Result Tree OperationFault
removed_added from to t = onwards (or_missing (pointed from t)) (λ v. onwards (applied (remove from) t) (applied (add to v)))

-- a move that does not go into itself is a remove and then an add of what was there; to its own place below the root too, but for the order of members
abbrev pub MoveIsRemoveAdd : Type 0
MoveIsRemoveAdd = (from to : List (List ℕ)) (t : Tree) → (begins from to ≡ false → applied (move from to) t ≡ removed_added from to t) × (from ≢ [] → SameOutcome (applied (move from from) t) (removed_added from from t))

-- in the value that an operation puts somewhere no text names two members
abbrev pub HasSingleValue : PlainOperation → Type 0
HasSingleValue (add ks v) = IsSingle v
HasSingleValue (replace ks v) = IsSingle v
HasSingleValue _ = ⊤

-- of trees that are the same the same operations make trees that are the same, or they have one fault. Where a text names two members, a remove would show the second; documents have none such
abbrev pub PatchedSame : Type 0
PatchedSame = (n : ℕ) (ops : List PlainOperation) (t u : Tree) → AllByRecursion HasSingleValue ops → IsSingle t → IsSingle u → Same t u → SameOutcome (patched_from n ops t) (patched_from n ops u)

-- and in what they make no text names two members
abbrev pub PatchedSingle : Type 0
PatchedSingle = (n : ℕ) (ops : List PlainOperation) (t u : Tree) → AllByRecursion HasSingleValue ops → IsSingle t → patched_from n ops t ≡ Ok u → IsSingle u
