-- The canonical print is as long as the compact one.
use Rattle.std.proofs.Common.{◌≡◌, ℕ, suc, ◌+◌, Bool, true, false, List, [], ◌∷◌, ◌++◌, length, if◌then◌else◌, refl, arith, length-append}
use Rattle.sj_text_core.specs.Tree.{Tree, null, boolean, int, text, list, obj, Items, no_items, item, Members, no_members, member}
use Rattle.sj_text_core.specs.Print.{quoted, compact, compact_items, compact_members}
use Rattle.sj_canonical.specs.Canonical.{is_before, sort_in, canonical, canonical_items, canonical_members}

-- a key and its value behind a comma, and members behind them
keyed_len : (k xs ys : List ℕ) → length (44 ∷ (k ++ 58 ∷ (xs ++ ys))) ≡ 2 + (length k + (length xs + length ys))
keyed_len k xs ys =
    let both : length (k ++ 58 ∷ (xs ++ ys)) ≡ length k + suc (length (xs ++ ys)) = length-append k (58 ∷ (xs ++ ys)) in
    omega (arith, both, length-append xs ys)

member_len : (k : List ℕ) (t : Tree) (ms : Members) → length (compact_members (member k t ms)) ≡ 2 + (length (quoted k) + (length (compact t) + length (compact_members ms)))
member_len k t ms = keyed_len (quoted k) (compact t) (compact_members ms)

-- an object is one longer than its members behind commas
obj_len : (k : List ℕ) (t : Tree) (ms : Members) → length (compact (obj (member k t ms))) ≡ 1 + length (compact_members (member k t ms))
obj_len k t ms =
    let whole : length (quoted k ++ 58 ∷ ((compact t ++ compact_members ms) ++ 125 ∷ [])) ≡ length (quoted k) + suc (length ((compact t ++ compact_members ms) ++ 125 ∷ [])) = length-append (quoted k) _ in
    let end : length ((compact t ++ compact_members ms) ++ 125 ∷ []) ≡ length (compact t ++ compact_members ms) + 1 = length-append (compact t ++ compact_members ms) (125 ∷ []) in
    omega (arith, whole, end, length-append (compact t) (compact_members ms), member_len k t ms)

sort_in_len : (k : List ℕ) (t : Tree) (ms : Members) → length (compact_members (sort_in k t ms)) ≡ length (compact_members (member k t ms))
sort_in_len k t no_members = refl
sort_in_len k t (member l u ms) = by_test (is_before l k) (sort_in_len k t ms)
  where
    by_test : (b : Bool) → length (compact_members (sort_in k t ms)) ≡ length (compact_members (member k t ms))
        → length (compact_members (if b then member l u (sort_in k t ms) else member k t (member l u ms))) ≡ length (compact_members (member k t (member l u ms)))
    by_test true e = omega (arith, e, member_len l u (sort_in k t ms), member_len k t ms, member_len k t (member l u ms), member_len l u ms)
    by_test false e = refl

sort_in_obj : (k : List ℕ) (t : Tree) (ms : Members) → length (compact (obj (sort_in k t ms))) ≡ 1 + length (compact_members (sort_in k t ms))
sort_in_obj k t no_members = obj_len k t no_members
sort_in_obj k t (member l u ms) = by_test (is_before l k)
  where
    by_test : (b : Bool) → length (compact (obj (if b then member l u (sort_in k t ms) else member k t (member l u ms)))) ≡ 1 + length (compact_members (if b then member l u (sort_in k t ms) else member k t (member l u ms)))
    by_test true = obj_len l u (sort_in k t ms)
    by_test false = obj_len k t (member l u ms)

list_len : (xs ys : List ℕ) → length (91 ∷ ((xs ++ ys) ++ 93 ∷ [])) ≡ 2 + (length xs + length ys)
list_len xs ys =
    let end : length ((xs ++ ys) ++ 93 ∷ []) ≡ length (xs ++ ys) + 1 = length-append (xs ++ ys) (93 ∷ []) in
    omega (arith, end, length-append xs ys)

item_len : (xs ys : List ℕ) → length (44 ∷ (xs ++ ys)) ≡ 1 + (length xs + length ys)
item_len xs ys = omega (arith, length-append xs ys)

mutual
  pub canonical_len : (t : Tree) → length (compact (canonical t)) ≡ length (compact t)
  canonical_len null = refl
  canonical_len (boolean b) = refl
  canonical_len (int n c) = refl
  canonical_len (text s) = refl
  canonical_len (list no_items) = refl
  canonical_len (list (item t is)) =
      omega (arith, list_len (compact (canonical t)) (compact_items (canonical_items is)), list_len (compact t) (compact_items is), canonical_len t, canonical_items_len is)
  canonical_len (obj no_members) = refl
  canonical_len (obj (member k t ms)) = omega (arith, sort_in_obj k (canonical t) (canonical_members ms), obj_len k t ms, canonical_members_len (member k t ms))

  canonical_items_len : (is : Items) → length (compact_items (canonical_items is)) ≡ length (compact_items is)
  canonical_items_len no_items = refl
  canonical_items_len (item t is) = omega (arith, item_len (compact (canonical t)) (compact_items (canonical_items is)), item_len (compact t) (compact_items is), canonical_len t, canonical_items_len is)

  canonical_members_len : (ms : Members) → length (compact_members (canonical_members ms)) ≡ length (compact_members ms)
  canonical_members_len no_members = refl
  canonical_members_len (member k t ms) =
      omega (arith, sort_in_len k (canonical t) (canonical_members ms), member_len k (canonical t) (canonical_members ms), member_len k t ms, canonical_len t, canonical_members_len ms)
