-- A compact print is as long as its nodes tell.
use Rattle.std.proofs.Common.{◌≡◌, ℕ, suc, ◌+◌, List, [], ◌∷◌, ◌++◌, length, true, false, arith, length-append}
use Rattle.std.proofs.lemmas.List.Sums.{sum_by-append}
use Rattle.sj_text_core.specs.Tree.{Tree, null, boolean, int, text, list, obj, Items, no_items, item, items_len, Members, no_members, member, members_len}
use Rattle.sj_text_core.specs.Nodes.{Mark, string, array, object, flat, flat_items, flat_members}
use Rattle.sj_text_core.specs.Print.{quoted, compact, compact_items, compact_members}
use Rattle.sj_print.specs.Printed.{frame_len}
use Rattle.sj_print.specs.inner.Printed.{mark_len, marks_len}

-- one node, and others
marks_len-cons : (m : Mark) (ns : List Mark) → marks_len (m ∷ ns) ≡ mark_len m + marks_len ns
marks_len-cons m ns =
    let both : marks_len (m ∷ ns) ≡ marks_len (m ∷ []) + marks_len ns = sum_by-append mark_len (m ∷ []) ns in
    omega (arith, both)

marks_len-append : (ms ns : List Mark) → marks_len (ms ++ ns) ≡ marks_len ms + marks_len ns
marks_len-append ms ns = sum_by-append mark_len ms ns

marks_len-member : (k : List ℕ) (t : Tree) (ms : Members) → marks_len (flat_members (member k t ms)) ≡ length (quoted k) + (marks_len (flat t) + marks_len (flat_members ms))
marks_len-member k t ms =
    let name : marks_len (flat_members (member k t ms)) ≡ length (quoted k) + marks_len (flat t ++ flat_members ms) = marks_len-cons (string k) (flat t ++ flat_members ms) in
    omega (arith, name, marks_len-append (flat t) (flat_members ms))

-- two parts of a print before a bracket
before_len : (z : ℕ) (xs ys : List ℕ) → length ((xs ++ ys) ++ z ∷ []) ≡ 1 + (length xs + length ys)
before_len z xs ys =
    let whole : length ((xs ++ ys) ++ z ∷ []) ≡ length (xs ++ ys) + 1 = length-append (xs ++ ys) (z ∷ []) in
    let both : length (xs ++ ys) ≡ length xs + length ys = length-append xs ys in
    omega (arith, whole, both)

-- a key and its value behind a mark
keyed_len : (a : ℕ) (k xs : List ℕ) → length (a ∷ (k ++ 58 ∷ xs)) ≡ 2 + (length k + length xs)
keyed_len a k xs =
    let both : length (k ++ 58 ∷ xs) ≡ length k + suc (length xs) = length-append k (58 ∷ xs) in
    omega (arith, both)

mutual
  pub compact_len : (t : Tree) → length (compact t) ≡ marks_len (flat t)
  compact_len null = omega arith
  compact_len (boolean true) = omega arith
  compact_len (boolean false) = omega arith
  compact_len (int n c) = omega arith
  compact_len (text s) = omega arith
  compact_len (list no_items) = omega arith
  compact_len (list (item t is)) =
      let whole : length ((compact t ++ compact_items is) ++ 93 ∷ []) ≡ 1 + (length (compact t) + length (compact_items is)) = before_len 93 (compact t) (compact_items is) in
      let nodes : marks_len (flat (list (item t is))) ≡ frame_len (suc (items_len is)) + marks_len (flat t ++ flat_items is) =
      marks_len-cons (array (suc (items_len is)) (length (flat t ++ flat_items is))) (flat t ++ flat_items is) in
      omega (arith, whole, nodes, marks_len-append (flat t) (flat_items is), compact_len t, items_print_len is)
  compact_len (obj no_members) = omega arith
  compact_len (obj (member k t ms)) =
      let inside : List ℕ = (compact t ++ compact_members ms) ++ 125 ∷ [] in
      let members : List Mark = flat_members (member k t ms) in
      let whole : length (compact (obj (member k t ms))) ≡ 2 + (length (quoted k) + length inside) = keyed_len 123 (quoted k) inside in
      let behind : length inside ≡ 1 + (length (compact t) + length (compact_members ms)) = before_len 125 (compact t) (compact_members ms) in
      let nodes : marks_len (flat (obj (member k t ms))) ≡ frame_len (suc (members_len ms)) + suc (members_len ms) + marks_len members =
      marks_len-cons (object (suc (members_len ms)) (length members)) members in
      omega (arith, whole, behind, nodes, marks_len-member k t ms, compact_len t, members_print_len ms)

  -- each behind a comma
  items_print_len : (is : Items) → length (compact_items is) ≡ items_len is + marks_len (flat_items is)
  items_print_len no_items = omega arith
  items_print_len (item t is) =
      let both : length (compact t ++ compact_items is) ≡ length (compact t) + length (compact_items is) = length-append (compact t) (compact_items is) in
      omega (arith, both, marks_len-append (flat t) (flat_items is), compact_len t, items_print_len is)

  -- each behind a comma, and its value behind a colon
  members_print_len : (ms : Members) → length (compact_members ms) ≡ members_len ms + members_len ms + marks_len (flat_members ms)
  members_print_len no_members = omega arith
  members_print_len (member k t ms) =
      let whole : length (compact_members (member k t ms)) ≡ 2 + (length (quoted k) + length (compact t ++ compact_members ms)) = keyed_len 44 (quoted k) (compact t ++ compact_members ms) in
      let both : length (compact t ++ compact_members ms) ≡ length (compact t) + length (compact_members ms) = length-append (compact t) (compact_members ms) in
      omega (arith, whole, both, marks_len-member k t ms, compact_len t, members_print_len ms)
