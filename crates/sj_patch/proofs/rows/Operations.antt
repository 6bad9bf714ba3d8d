-- Patch documents: operations of RFC 6902, appendix A, and what is wrong with each that is refused.
use Rattle.std.proofs.Common.{◌≡◌, ℕ, List, [], ◌∷◌, Ok, Err, pos, refl, codes}
use Rattle.sj_text_core.specs.Tree.{u64, Tree, null, int, text, list, obj, no_items, item, Members, no_members, member}
use Rattle.sj_patch.specs.Patch.{add, remove, replace, move, copy, test}
use Rattle.sj_patch.specs.Operations.{patch_in}
use Rattle.sj_text_core.specs.declared.patch_fault.ItemFault.TheVariants.{NotAnObject, Op, Path, From, Value}
use Rattle.sj_text_core.specs.declared.patch_fault.PatchReadFault.TheVariants.{NotAnArray, Item}

abbrev foo : List ℕ
foo = codes "foo"

abbrev bar : List ℕ
bar = codes "bar"

abbrev baz : List ℕ
baz = codes "baz"

abbrev qux : List ℕ
qux = codes "qux"

-- "op", "path", "from" and "value" in front of further members
abbrev op : List ℕ → Members → Members
op s ms = member (codes "op") (text s) ms

abbrev path : List ℕ → Members → Members
path s ms = member (codes "path") (text s) ms

abbrev from : List ℕ → Members → Members
from s ms = member (codes "from") (text s) ms

abbrev value : Tree → Members → Members
value v ms = member (codes "value") v ms

abbrev one : Members → Tree
one ms = list (item (obj ms) no_items)

-- A.1: [{ "op": "add", "path": "/baz", "value": "qux" }]
added : patch_in (one (op (codes "add") (path (codes "/baz") (value (text qux) no_members)))) ≡ Ok (add (baz ∷ []) (text qux) ∷ [])
added = refl

-- A.4: [{ "op": "remove", "path": "/foo/1" }]
removed : patch_in (one (op (codes "remove") (path (codes "/foo/1") no_members))) ≡ Ok (remove (foo ∷ codes "1" ∷ []) ∷ [])
removed = refl

-- A.5: [{ "op": "replace", "path": "/baz", "value": "boo" }]
replaced : patch_in (one (op (codes "replace") (path (codes "/baz") (value (text (codes "boo")) no_members)))) ≡ Ok (replace (baz ∷ []) (text (codes "boo")) ∷ [])
replaced = refl

-- A.6: [{ "op": "move", "from": "/foo/waldo", "path": "/qux/thud" }]
moved : patch_in (one (op (codes "move") (from (codes "/foo/waldo") (path (codes "/qux/thud") no_members)))) ≡ Ok (move (foo ∷ codes "waldo" ∷ []) (qux ∷ codes "thud" ∷ []) ∷ [])
moved = refl

-- section 4.5: { "op": "copy", "from": "/a/b/c", "path": "/a/b/e" }
copied : patch_in (one (op (codes "copy") (from (codes "/a/b/c") (path (codes "/a/b/e") no_members)))) ≡ Ok (copy (codes "a" ∷ codes "b" ∷ codes "c" ∷ []) (codes "a" ∷ codes "b" ∷ codes "e" ∷ []) ∷ [])
copied = refl

-- A.8: [{ "op": "test", "path": "/baz", "value": "qux" }, { "op": "test", "path": "/foo/1", "value": 2 }]
tested : patch_in (list (item (obj (op (codes "test") (path (codes "/baz") (value (text qux) no_members)))) (item (obj (op (codes "test") (path (codes "/foo/1") (value (int (pos 2) u64) no_members)))) no_items)))
    ≡ Ok (test (baz ∷ []) (text qux) ∷ test (foo ∷ codes "1" ∷ []) (int (pos 2) u64) ∷ [])
tested = refl

-- A.11: a member that no operation has is ignored
ignored : patch_in (one (op (codes "add") (path (codes "/baz") (value (text qux) (member (codes "xyz") (int (pos 123) u64) no_members))))) ≡ Ok (add (baz ∷ []) (text qux) ∷ [])
ignored = refl

-- A.14: [{"op": "test", "path": "/~01", "value": 10}]
escaped : patch_in (one (op (codes "test") (path (codes "/~01") (value (int (pos 10) u64) no_members)))) ≡ Ok (test (codes "~1" ∷ []) (int (pos 10) u64) ∷ [])
escaped = refl

-- the members may stand in any order (section 4)
ordered : patch_in (one (value (text bar) (path (codes "/foo") (op (codes "add") no_members)))) ≡ Ok (add (foo ∷ []) (text bar) ∷ [])
ordered = refl

-- no operations
empty : patch_in (list no_items) ≡ Ok []
empty = refl

-- a null is a value, and the empty text is the pointer of the whole document
nothing : patch_in (one (op (codes "replace") (path [] (value null no_members)))) ≡ Ok (replace [] null ∷ [])
nothing = refl

no-array : patch_in (obj (op (codes "remove") (path (codes "/foo") no_members))) ≡ Err NotAnArray
no-array = refl

no-object : patch_in (list (item (text foo) no_items)) ≡ Err (Item 0 NotAnObject)
no-object = refl

no-op : patch_in (one (path (codes "/foo") no_members)) ≡ Err (Item 0 Op)
no-op = refl

op-is-no-text : patch_in (one (member (codes "op") null (path (codes "/foo") no_members))) ≡ Err (Item 0 Op)
op-is-no-text = refl

-- names are written in small letters alone
unknown-op : patch_in (one (op (codes "Remove") (path (codes "/foo") no_members))) ≡ Err (Item 0 Op)
unknown-op = refl

no-path : patch_in (one (op (codes "remove") no_members)) ≡ Err (Item 0 Path)
no-path = refl

path-is-no-pointer : patch_in (one (op (codes "remove") (path foo no_members))) ≡ Err (Item 0 Path)
path-is-no-pointer = refl

no-from : patch_in (one (op (codes "move") (path (codes "/foo") no_members))) ≡ Err (Item 0 From)
no-from = refl

from-is-no-pointer : patch_in (one (op (codes "copy") (path (codes "/foo") (from (codes "/~2") no_members)))) ≡ Err (Item 0 From)
from-is-no-pointer = refl

no-value : patch_in (one (op (codes "test") (path (codes "/foo") no_members))) ≡ Err (Item 0 Value)
no-value = refl

-- "path" is looked at before "from" and "value"
path-first : patch_in (one (op (codes "copy") no_members)) ≡ Err (Item 0 Path)
path-first = refl

-- the first item that is wrong counts, by its number from 0
second-first : patch_in (list (item (obj (op (codes "remove") (path (codes "/foo") no_members))) (item (obj (op (codes "add") (path (codes "/foo") no_members))) (item null no_items)))) ≡ Err (Item 1 Value)
second-first = refl
