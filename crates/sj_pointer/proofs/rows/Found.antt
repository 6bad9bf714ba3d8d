-- What pointers find.
use Rattle.std.proofs.Common.{◌≡◌, ℕ, List, [], ◌∷◌, Option, Some, None, pos, refl, codes}
use Rattle.sj_text_core.specs.Tree.{u64, Tree, null, int, text, list, obj, no_items, item, no_members, member}
use Rattle.sj_text_core.specs.declared.repeats.Repeats.TheVariants.{First, Last}
use Rattle.sj_pointer.specs.Tokens.{tokens_of}
use Rattle.sj_pointer.specs.Pointed.{pointed, pointed_by, set_pointed}

abbrev n : ℕ → Tree
n m = int (pos m) u64

-- ["bar","baz"]
abbrev foo : Tree
foo = list (item (text (codes "bar")) (item (text (codes "baz")) no_items))

-- {"foo":["bar","baz"],"":0,"a/b":1,"c%d":2,"e^f":3,"g|h":4,"i\\j":5,"k\"l":6," ":7,"m~n":8}
abbrev doc : Tree
doc =
    obj (member (codes "foo") foo (member [] (n 0) (member (codes "a/b") (n 1) (member (codes "c%d") (n 2) (member (codes "e^f") (n 3)
    (member (codes "g|h") (n 4) (member (codes "i\\j") (n 5) (member (codes "k\"l") (n 6) (member (codes " ") (n 7) (member (codes "m~n") (n 8) no_members))))))))))

abbrev at : List ℕ → Option Tree
at s = pointed (tokens_of s) doc

-- the whole document, and its parts (RFC 6901, section 5)
whole : at (codes "") ≡ Some doc
whole = refl

array : at (codes "/foo") ≡ Some foo
array = refl

first-item : at (codes "/foo/0") ≡ Some (text (codes "bar"))
first-item = refl

empty-key : at (codes "/") ≡ Some (n 0)
empty-key = refl

key-slash : at (codes "/a~1b") ≡ Some (n 1)
key-slash = refl

key-percent : at (codes "/c%d") ≡ Some (n 2)
key-percent = refl

key-caret : at (codes "/e^f") ≡ Some (n 3)
key-caret = refl

key-bar : at (codes "/g|h") ≡ Some (n 4)
key-bar = refl

key-backslash : at (codes "/i\\j") ≡ Some (n 5)
key-backslash = refl

key-quote : at (codes "/k\"l") ≡ Some (n 6)
key-quote = refl

key-space : at (codes "/ ") ≡ Some (n 7)
key-space = refl

key-tilde : at (codes "/m~0n") ≡ Some (n 8)
key-tilde = refl

-- past the last item, no positions, past 64 bits, on a scalar, no such key
past-last : at (codes "/foo/2") ≡ None
past-last = refl

leading-zero : at (codes "/foo/00") ≡ None
leading-zero = refl

dash : at (codes "/foo/-") ≡ None
dash = refl

past-greatest : at (codes "/foo/18446744073709551616") ≡ None
past-greatest = refl

on-scalar : at (codes "/foo/0/x") ≡ None
on-scalar = refl

no-key : at (codes "/m~01n") ≡ None
no-key = refl

-- a token of digits is a key on an object
abbrev digits : Tree
digits = obj (member (codes "00") (n 1) (member (codes "-") (n 2) no_members))

key-digits : pointed (codes "00" ∷ []) digits ≡ Some (n 1)
key-digits = refl

key-dash : pointed (codes "-" ∷ []) digits ≡ Some (n 2)
key-dash = refl

-- {"a":1,"a":[2]}
abbrev repeated : Tree
repeated = obj (member (codes "a") (n 1) (member (codes "a") (list (item (n 2) no_items)) no_members))

by-first : pointed_by First (codes "a" ∷ codes "0" ∷ []) repeated ≡ None
by-first = refl

by-last : pointed_by Last (codes "a" ∷ codes "0" ∷ []) repeated ≡ Some (n 2)
by-last = refl

-- writes
abbrev pair : Tree → Tree → Tree
pair t u = obj (member (codes "a") (list (item (n 1) (item t no_items))) (member (codes "b") u no_members))

set-item : set_pointed (codes "a" ∷ codes "1" ∷ []) null (pair (n 2) (n 3)) ≡ pair null (n 3)
set-item = refl

set-member : set_pointed (codes "b" ∷ []) null (pair (n 2) (n 3)) ≡ pair (n 2) null
set-member = refl

set-whole : set_pointed [] null (pair (n 2) (n 3)) ≡ null
set-whole = refl

-- nothing stands there, so nothing is written: a key that is not there, a position past the last item, no position
set-no-key : set_pointed (codes "c" ∷ []) null (pair (n 2) (n 3)) ≡ pair (n 2) (n 3)
set-no-key = refl

set-past-last : set_pointed (codes "a" ∷ codes "2" ∷ []) null (pair (n 2) (n 3)) ≡ pair (n 2) (n 3)
set-past-last = refl

set-dash : set_pointed (codes "a" ∷ codes "-" ∷ []) null (pair (n 2) (n 3)) ≡ pair (n 2) (n 3)
set-dash = refl
