-- What a patch makes of a tree, and where it fails (RFC 6902).
use Rattle.std.specs.Prelude.{ℕ, suc, ◌&&◌, Bool, true, false, List, [], ◌∷◌, Option, Some, None, Result, Ok, Err, option_map, if◌then◌else◌, bytes_eq, nat_le}
use Rattle.sj_text_core.specs.Tree.{Tree, list, obj, Items, items_len}
use Rattle.sj_text_core.specs.Ascii.{minus}
use Rattle.sj_text_core.specs.Find.{find_member, nth_item}
use Rattle.sj_text_core.specs.Edits.{put, cut}
use Rattle.sj_text_core.specs.Equal.{tree_eq}
use Rattle.sj_text_core.specs.Places.{position_of}
use Rattle.sj_text_core.specs.Paths.{by_token, set_found}
use Rattle.sj_text_core.specs.declared.repeats.Repeats.TheVariants.{First}
use Rattle.sj_document.specs.Items.{insert_at, remove_at}
use Rattle.sj_pointer.specs.Pointed.{token_into, pointed, set_pointed}
use Rattle.sj_text_core.specs.declared.patch_fault.OperationFault.{OperationFault}
use Rattle.sj_text_core.specs.declared.patch_fault.OperationFault.TheVariants.{Missing, NoPlace, Whole, IntoItself, Differs}

-- an operation (section 4), with its pointers as their tokens; move and copy name "from" first, and then "path"
pub data PlainOperation : Type 0 where
  add : List (List ℕ) → Tree → PlainOperation
  remove : List (List ℕ) → PlainOperation
  replace : List (List ℕ) → Tree → PlainOperation
  move : List (List ℕ) → List (List ℕ) → PlainOperation
  copy : List (List ℕ) → List (List ℕ) → PlainOperation
  test : List (List ℕ) → Tree → PlainOperation

-- what was found, or else that nothing stands there
abbrev pub or_missing : Option Tree → Result Tree OperationFault
or_missing None = Err Missing
or_missing (Some t) = Ok t

-- f of what was made, or else why nothing was
abbrev pub onwards : Result Tree OperationFault → (Tree → Result Tree OperationFault) → Result Tree OperationFault
onwards (Err w) f = Err w
onwards (Ok t) f = f t

-- t changed by f in the container to which all tokens but the last lead; f is given the last
abbrev pub within : (List ℕ → Tree → Result Tree OperationFault) → List ℕ → List (List ℕ) → Tree → Result Tree OperationFault
within f k [] t = f k t
within f k (l ∷ ks) t = onwards (or_missing (token_into First k t)) (λ u. onwards (within f l ks u) (λ w. Ok (set_found (by_token k) w t)))

abbrev pub up_to : ℕ → Option ℕ → Option ℕ
up_to n None = None
up_to n (Some i) = if nat_le i n then Some i else None

-- where a token puts a new item among n: `-` behind them (RFC 6901, section 4), an index no greater than n at that place
abbrev pub place_among : ℕ → List ℕ → Option ℕ
place_among n k = if bytes_eq k (minus ∷ []) then Some n else up_to n (position_of k)

abbrev pub added_at : Option ℕ → Tree → Items → Result Tree OperationFault
added_at None v is = Err NoPlace
added_at (Some i) v is = Ok (list (insert_at i v is))

-- section 4.1, in the container that the value goes to: a new member goes last, the value of one that is there is replaced, an item goes in front of the one at its place
abbrev pub added_in : Tree → List ℕ → Tree → Result Tree OperationFault
added_in v k (obj ms) = Ok (obj (put k v ms))
added_in v k (list is) = added_at (place_among (items_len is) k) v is
added_in v k _ = Err Missing

abbrev pub removed_at : Option ℕ → Items → Option Tree
removed_at None is = None
removed_at (Some i) is = option_map (λ _. list (remove_at i is)) (nth_item i is)

-- section 4.2, in the container that the value is taken from
abbrev pub removed_in : List ℕ → Tree → Result Tree OperationFault
removed_in k (obj ms) = or_missing (option_map (λ _. obj (cut k ms)) (find_member k ms))
removed_in k (list is) = or_missing (removed_at (position_of k) is)
removed_in k _ = Err Missing

-- section 4.1: at the root "the specified value becomes the entire content of the target document"
abbrev pub added : List (List ℕ) → Tree → Tree → Result Tree OperationFault
added [] v t = Ok v
added (k ∷ ks) v t = within (added_in v) k ks t

-- section 4.2; the whole document cannot be removed, since no document would be left
abbrev pub removed : List (List ℕ) → Tree → Result Tree OperationFault
removed [] t = Err Whole
removed (k ∷ ks) t = within removed_in k ks t

-- section 4.3: "The target location MUST exist"
abbrev pub replaced : List (List ℕ) → Tree → Tree → Result Tree OperationFault
replaced ks v t = onwards (or_missing (pointed ks t)) (λ _. Ok (set_pointed ks v t))

-- section 4.5
abbrev pub copied : List (List ℕ) → List (List ℕ) → Tree → Result Tree OperationFault
copied from to t = onwards (or_missing (pointed from t)) (λ v. added to v t)

-- section 4.6; equal as the section says is `Same`
abbrev pub tested : List (List ℕ) → Tree → Tree → Result Tree OperationFault
tested ks v t = onwards (or_missing (pointed ks t)) (λ u. if tree_eq u v then Ok t else Err Differs)

-- whether the first tokens of ls are ks
abbrev pub begins : List (List ℕ) → List (List ℕ) → Bool
begins [] ls = true
begins (k ∷ ks) [] = false
begins (k ∷ ks) (l ∷ ls) = bytes_eq k l && begins ks ls

-- what stands there stays
abbrev pub stayed : List (List ℕ) → Tree → Result Tree OperationFault
stayed ks t = onwards (or_missing (pointed ks t)) (λ _. Ok t)

-- section 4.4: removed, and then added; not into itself; and where both locations are one, what stands there stays
abbrev pub moved : List (List ℕ) → List (List ℕ) → Tree → Result Tree OperationFault
moved from to t =
    if begins from to
    then (if begins to from then stayed from t else Err IntoItself)
    else onwards (removed from t) (λ u. onwards (or_missing (pointed from t)) (λ v. added to v u))

-- the tree after an operation, or why there is none
abbrev pub applied : PlainOperation → Tree → Result Tree OperationFault
applied (add ks v) t = added ks v t
applied (remove ks) t = removed ks t
applied (replace ks v) t = replaced ks v t
applied (move from to) t = moved from to t
applied (copy from to) t = copied from to t
applied (test ks v) t = tested ks v t

abbrev pub next : ℕ → Result Tree OperationFault → (Tree → Result Tree (ℕ × OperationFault)) → Result Tree (ℕ × OperationFault)
next n (Err w) f = Err (n, w)
next n (Ok t) f = f t

-- the tree after operations in order, or the first that fails, counted from n, and why
abbrev pub patched_from : ℕ → List PlainOperation → Tree → Result Tree (ℕ × OperationFault)
patched_from n [] t = Ok t
patched_from n (op ∷ ops) t = next n (applied op t) (patched_from (suc n) ops)

-- section 5: all of them, or none
abbrev pub patched : List PlainOperation → Tree → Result Tree (ℕ × OperationFault)
patched ops t = patched_from 0 ops t
