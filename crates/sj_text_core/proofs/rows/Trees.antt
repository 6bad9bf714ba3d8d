-- Nodes, lookups, first members, edits and prints of small trees.
use Rattle.std.proofs.Common.{◌≡◌, pos, negsuc, true, false, [], ◌∷◌, ◌++◌, refl, codes, Some, None}
use Rattle.std.specs.Fmt.{digits}
use Rattle.sj_text_core.specs.Tree.{u64, i64, u128, i128, Tree, Members, null, boolean, int, text, list, obj, no_items, item, no_members, member, depth}
use Rattle.sj_text_core.specs.Nodes.{nothing, truth, number, string, array, object, flat, tree_of}
use Rattle.sj_text_core.specs.Find.{find, nth}
use Rattle.sj_text_core.specs.Keep.{keep, IsSingle}
use Rattle.sj_text_core.specs.Edits.{put, cut, push, front, last}
use Rattle.sj_text_core.specs.Paths.{by_key, by_place, by_token, tree_at, set_at}
use Rattle.sj_text_core.specs.Print.{compact, pretty, recarry}

abbrev one : Tree
one = int (pos 1) u64

abbrev two : Tree
two = int (pos 2) u64

-- {"x":{"k":1},"k":2}
abbrev nested : Tree
nested = obj (member (codes "x") (obj (member (codes "k") one no_members)) (member (codes "k") two no_members))

flat-nested : flat nested ≡ object 2 6 ∷ string (codes "x") ∷ object 1 2 ∷ string (codes "k") ∷ number (pos 1) u64 ∷ string (codes "k") ∷ number (pos 2) u64 ∷ []
flat-nested = refl

-- [true,["a"],null]
flat-list : flat (list (item (boolean true) (item (list (item (text (codes "a")) no_items)) (item null no_items)))) ≡ array 3 4 ∷ truth true ∷ array 1 1 ∷ string (codes "a") ∷ nothing ∷ []
flat-list = refl

tree_of-nested : tree_of (object 2 6 ∷ string (codes "x") ∷ object 1 2 ∷ string (codes "k") ∷ number (pos 1) u64 ∷ string (codes "k") ∷ number (pos 2) u64 ∷ []) ≡ nested
tree_of-nested = refl

depth-nested : depth nested ≡ 2
depth-nested = refl

-- a key of an inner object is passed over
find-nested : find (codes "k") nested ≡ Some two
find-nested = refl

find-absent : find (codes "y") nested ≡ None
find-absent = refl

-- {"a":1,"a":2}
abbrev repeated : Tree
repeated = obj (member (codes "a") one (member (codes "a") two no_members))

find-repeated : find (codes "a") repeated ≡ Some one
find-repeated = refl

keep-repeated : keep repeated ≡ obj (member (codes "a") one no_members)
keep-repeated = refl

-- {"a":[{"b":1,"c":1,"b":2}],"a":0,"d":2}
keep-deep : keep (obj (member (codes "a") (list (item (obj (member (codes "b") one (member (codes "c") one (member (codes "b") two no_members)))) no_items)) (member (codes "a") null (member (codes "d") two no_members))))
    ≡ obj (member (codes "a") (list (item (obj (member (codes "b") one (member (codes "c") one no_members))) no_items)) (member (codes "d") two no_members))
keep-deep = refl

-- insert a 1, insert b 2, insert a 3
put-in_turn : put (codes "a") (int (pos 3) u64) (put (codes "b") two (put (codes "a") one no_members)) ≡ member (codes "a") (int (pos 3) u64) (member (codes "b") two no_members)
put-in_turn = refl

-- remove a, and once more
cut-first : cut (codes "a") (member (codes "a") (int (pos 3) u64) (member (codes "b") two no_members)) ≡ member (codes "b") two no_members
cut-first = refl

cut-absent : cut (codes "a") (member (codes "b") two no_members) ≡ member (codes "b") two no_members
cut-absent = refl

-- [1,2] and its ends
push-last : push two (item one no_items) ≡ item one (item two no_items)
push-last = refl

front-two : front (item one (item two no_items)) ≡ item one no_items
front-two = refl

last-two : last (item one (item two no_items)) ≡ Some two
last-two = refl

nth-two : nth 1 (list (item one (item two no_items))) ≡ Some two
nth-two = refl

nth-past : nth 2 (list (item one (item two no_items))) ≡ None
nth-past = refl

-- [[1],{"k":[2]}] at [1], "k" and 0
abbrev branched : Tree
branched = list (item (list (item one no_items)) (item (obj (member (codes "k") (list (item two no_items)) no_members)) no_items))

tree_at-branched : tree_at (by_place 1 ∷ by_key (codes "k") ∷ by_place 0 ∷ []) branched ≡ Some two
tree_at-branched = refl

-- a key step on an array finds nothing
tree_at-kind : tree_at (by_key (codes "k") ∷ []) branched ≡ None
tree_at-kind = refl

set_at-branched : set_at (by_place 1 ∷ by_key (codes "k") ∷ []) null branched ≡ list (item (list (item one no_items)) (item (obj (member (codes "k") null no_members)) no_items))
set_at-branched = refl

set_at-absent : set_at (by_place 2 ∷ []) null branched ≡ branched
set_at-absent = refl

-- tokens: a position on an array, a key on an object
tree_at-tokens : tree_at (by_token (codes "1") ∷ by_token (codes "k") ∷ by_token (codes "0") ∷ []) branched ≡ Some two
tree_at-tokens = refl

tree_at-no_position : tree_at (by_token (codes "01") ∷ []) branched ≡ None
tree_at-no_position = refl

-- a key step on an array finds nothing, also one of digits
tree_at-digits : tree_at (by_key (codes "1") ∷ []) branched ≡ None
tree_at-digits = refl

set_at-tokens : set_at (by_token (codes "1") ∷ by_token (codes "k") ∷ []) null branched ≡ set_at (by_place 1 ∷ by_key (codes "k") ∷ []) null branched
set_at-tokens = refl

-- {"a":[1,{}]}
abbrev indented : Tree
indented = obj (member (codes "a") (list (item one (item (obj no_members) no_items))) no_members)

compact-indented : compact indented ≡ codes "{\"a\":[1,{}]}"
unfolding digits
compact-indented = refl

pretty-indented : pretty 0 indented ≡ codes "{\n  \"a\": [\n    1,\n    {}\n  ]\n}"
unfolding digits
pretty-indented = refl

compact-two : compact (list (item (int (negsuc 4) i64) (item (list no_items) (item (boolean false) no_items)))) ≡ codes "[-5,[],false]"
unfolding digits
compact-two = refl

pretty-two : pretty 0 (obj (member (codes "b") null (member (codes "a") (boolean true) no_members))) ≡ codes "{\n  \"b\": null,\n  \"a\": true\n}"
pretty-two = refl

-- {"q\"k":"a/bA"}
compact-escaped : compact (obj (member (codes "q\"k") (text (codes "a/bA")) no_members)) ≡ codes "{\"q\\\"k\":\"a/bA\"}"
compact-escaped = refl

-- the five short escapes, the two others below U+0020 at either end, a backslash, and DEL, which is copied
compact-controls : compact (text (8 ∷ 9 ∷ 10 ∷ 12 ∷ 13 ∷ 0 ∷ 11 ∷ 15 ∷ 16 ∷ 31 ∷ 92 ∷ 127 ∷ [])) ≡ codes "\"\\b\\t\\n\\f\\r\\u0000\\u000b\\u000f\\u0010\\u001f\\\\" ++ (127 ∷ 34 ∷ [])
compact-controls = refl

-- {"a":1,"b":2,"a":2}: the first of a text is put, cut and found
abbrev aba : Members
aba = member (codes "a") one (member (codes "b") two (member (codes "a") two no_members))

put-repeated : put (codes "a") null aba ≡ member (codes "a") null (member (codes "b") two (member (codes "a") two no_members))
put-repeated = refl

cut-repeated : cut (codes "a") aba ≡ member (codes "b") two (member (codes "a") two no_members)
cut-repeated = refl

not_single-repeated : IsSingle (obj aba) → ⊥
not_single-repeated h = cc h.0

-- {"":""}
abbrev empty : Tree
empty = obj (member [] (text []) no_members)

find-empty : find [] empty ≡ Some (text [])
find-empty = refl

find-no_empty : find [] nested ≡ None
find-no_empty = refl

compact-empty : compact empty ≡ codes "{\"\":\"\"}"
compact-empty = refl

pretty-empty : pretty 0 empty ≡ codes "{\n  \"\": \"\"\n}"
pretty-empty = refl

-- [[],{"a":{}}] at the top and at a level
abbrev hollow : Tree
hollow = list (item (list no_items) (item (obj (member (codes "a") (obj no_members) no_members)) no_items))

pretty-hollow : pretty 0 hollow ≡ codes "[\n  [],\n  {\n    \"a\": {}\n  }\n]"
pretty-hollow = refl

pretty-deeper : pretty 1 (list (item null no_items)) ≡ codes "[\n    null\n  ]"
pretty-deeper = refl

-- the carriers of prints, inside a list and an object
recarry-inside : recarry (list (item (int (pos 5) i128) (item (obj (member (codes "k") (int (negsuc 0) i128) no_members)) no_items)))
    ≡ list (item (int (pos 5) u64) (item (obj (member (codes "k") (int (negsuc 0) i64) no_members)) no_items))
recarry-inside = refl

recarry-wide : recarry (list (item (int (pos 18446744073709551616) i128) (item (int (negsuc 9223372036854775808) i128) no_items)))
    ≡ list (item (int (pos 18446744073709551616) u128) (item (int (negsuc 9223372036854775808) i128) no_items))
recarry-wide = refl
