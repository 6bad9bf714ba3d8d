-- Patches: the cases of RFC 6902, appendix A.
use Rattle.std.proofs.Common.{◌≡◌, ℕ, List, [], ◌∷◌, Ok, Err, pos, refl, codes}
use Rattle.sj_text_core.specs.Tree.{u64, i64, Tree, int, text, list, obj, no_items, item, no_members, member}
use Rattle.sj_pointer.specs.Tokens.{tokens_of}
use Rattle.sj_patch.specs.Patch.{add, remove, replace, move, copy, test, patched}
use Rattle.sj_text_core.specs.declared.patch_fault.OperationFault.TheVariants.{Missing, NoPlace, Whole, IntoItself, Differs}

abbrev n : ℕ → Tree
n m = int (pos m) u64

abbrev foo : List ℕ
foo = codes "foo"

abbrev bar : List ℕ
bar = codes "bar"

abbrev baz : List ℕ
baz = codes "baz"

abbrev qux : List ℕ
qux = codes "qux"

abbrev at : List ℕ → List (List ℕ)
at s = tokens_of s

abbrev of : List ℕ → Tree → Tree
of k v = obj (member k v no_members)

abbrev two : List ℕ → Tree → List ℕ → Tree → Tree
two k v l w = obj (member k v (member l w no_members))

abbrev pair : Tree → Tree → Tree
pair v w = list (item v (item w no_items))

abbrev three : Tree → Tree → Tree → Tree
three u v w = list (item u (item v (item w no_items)))

-- A.1, an object member; it goes last
member-added : patched (add (at (codes "/baz")) (text qux) ∷ []) (of foo (text bar)) ≡ Ok (two foo (text bar) baz (text qux))
member-added = refl

-- A.2, an array element
item-added : patched (add (at (codes "/foo/1")) (text qux) ∷ []) (of foo (pair (text bar) (text baz))) ≡ Ok (of foo (three (text bar) (text qux) (text baz)))
item-added = refl

-- A.3
member-removed : patched (remove (at (codes "/baz")) ∷ []) (two baz (text qux) foo (text bar)) ≡ Ok (of foo (text bar))
member-removed = refl

-- A.4
item-removed : patched (remove (at (codes "/foo/1")) ∷ []) (of foo (three (text bar) (text qux) (text baz))) ≡ Ok (of foo (pair (text bar) (text baz)))
item-removed = refl

-- A.5
value-replaced : patched (replace (at (codes "/baz")) (text (codes "boo")) ∷ []) (two baz (text qux) foo (text bar)) ≡ Ok (two baz (text (codes "boo")) foo (text bar))
value-replaced = refl

-- A.6
value-moved : patched (move (at (codes "/foo/waldo")) (at (codes "/qux/thud")) ∷ []) (two foo (two bar (text baz) (codes "waldo") (text (codes "fred"))) qux (of (codes "corge") (text (codes "grault"))))
    ≡ Ok (two foo (of bar (text baz)) qux (two (codes "corge") (text (codes "grault")) (codes "thud") (text (codes "fred"))))
value-moved = refl

-- A.7
item-moved : patched (move (at (codes "/foo/1")) (at (codes "/foo/2")) ∷ []) (of foo (three (text bar) (text qux) (text baz))) ≡ Ok (of foo (three (text bar) (text baz) (text qux)))
item-moved = refl

-- A.8
value-tested : patched (test (at (codes "/baz")) (text qux) ∷ test (at (codes "/foo/1")) (n 2) ∷ []) (two baz (text qux) foo (three (text (codes "a")) (n 2) (text (codes "c"))))
    ≡ Ok (two baz (text qux) foo (three (text (codes "a")) (n 2) (text (codes "c"))))
value-tested = refl

-- A.9
test-failed : patched (test (at (codes "/baz")) (text bar) ∷ []) (of baz (text qux)) ≡ Err (0, Differs)
test-failed = refl

-- A.10
nested-added : patched (add (at (codes "/child")) (of (codes "grandchild") (obj no_members)) ∷ []) (of foo (text bar)) ≡ Ok (two foo (text bar) (codes "child") (of (codes "grandchild") (obj no_members)))
nested-added = refl

-- A.12, to a target that is not there
parent-missing : patched (add (at (codes "/baz/bat")) (text qux) ∷ []) (of foo (text bar)) ≡ Err (0, Missing)
parent-missing = refl

-- A.14, a slash and a tilde in a key
escaped : patched (test (at (codes "/~01")) (n 10) ∷ []) (two (codes "/") (n 9) (codes "~1") (n 10)) ≡ Ok (two (codes "/") (n 9) (codes "~1") (n 10))
escaped = refl

-- A.15, a text is no number
text-and-number : patched (test (at (codes "/~01")) (text (codes "10")) ∷ []) (two (codes "/") (n 9) (codes "~1") (n 10)) ≡ Err (0, Differs)
text-and-number = refl

-- A.16, `-` is behind the last item
appended : patched (add (at (codes "/foo/-")) (pair (text (codes "abc")) (text (codes "def"))) ∷ []) (of foo (list (item (text bar) no_items))) ≡ Ok (of foo (pair (text bar) (pair (text (codes "abc")) (text (codes "def")))))
appended = refl

-- all or none: which operation failed (section 5)
second-fails : patched (replace (at (codes "/foo")) (n 1) ∷ test (at (codes "/foo")) (text bar) ∷ []) (of foo (text bar)) ≡ Err (1, Differs)
second-fails = refl

-- numbers are compared by value (section 4.6)
carriers : patched (test [] (int (pos 1) i64) ∷ []) (n 1) ≡ Ok (n 1)
carriers = refl

-- the index may be the number of items, and no more
at-end : patched (add (at (codes "/1")) (n 2) ∷ []) (list (item (n 1) no_items)) ≡ Ok (pair (n 1) (n 2))
at-end = refl

past-end : patched (add (at (codes "/2")) (n 2) ∷ []) (list (item (n 1) no_items)) ≡ Err (0, NoPlace)
past-end = refl

-- `-` names no item that is there (RFC 6901, section 4)
dash-missing : patched (remove (at (codes "/-")) ∷ []) (list (item (n 1) no_items)) ≡ Err (0, Missing)
dash-missing = refl

leading-zero : patched (add (at (codes "/01")) (n 2) ∷ []) (pair (n 1) (n 1)) ≡ Err (0, NoPlace)
leading-zero = refl

-- on an object a dash and digits are keys
dash-key : patched (add (at (codes "/-")) (n 1) ∷ add (at (codes "/0")) (n 2) ∷ []) (obj no_members) ≡ Ok (two (codes "-") (n 1) (codes "0") (n 2))
dash-key = refl

-- a member that is there keeps its place
place-kept : patched (add (at (codes "/foo")) (n 3) ∷ []) (two foo (n 1) bar (n 2)) ≡ Ok (two foo (n 3) bar (n 2))
place-kept = refl

into-itself : patched (move (at (codes "/foo")) (at (codes "/foo/bar")) ∷ []) (of foo (obj no_members)) ≡ Err (0, IntoItself)
into-itself = refl

copied-into-itself : patched (copy (at (codes "/foo")) (at (codes "/foo/bar")) ∷ []) (of foo (obj no_members)) ≡ Ok (of foo (of bar (obj no_members)))
copied-into-itself = refl

onto-itself : patched (move (at (codes "/foo")) (at (codes "/foo")) ∷ []) (two foo (n 1) bar (n 2)) ≡ Ok (two foo (n 1) bar (n 2))
onto-itself = refl

whole-added : patched (add [] (n 2) ∷ []) (n 1) ≡ Ok (n 2)
whole-added = refl

whole-removed : patched (remove [] ∷ []) (n 1) ≡ Err (0, Whole)
whole-removed = refl
