-- Values set at pointers, with the objects on the way.
use Rattle.std.proofs.Common.{◌≡◌, ℕ, List, Option, Some, None, pos, refl, codes}
use Rattle.sj_text_core.specs.Tree.{u64, Tree, int, list, obj, no_items, item, no_members, member}
use Rattle.sj_pointer.specs.Tokens.{tokens_of}
use Rattle.sj_path.specs.Made.{set_made}

abbrev n : ℕ → Tree
n m = int (pos m) u64

-- {"b":2}
abbrev inner : Tree
inner = obj (member (codes "b") (n 2) no_members)

-- {"a":[1,t],"c":3}
abbrev with_inner : Tree → Tree
with_inner t = obj (member (codes "a") (list (item (n 1) (item t no_items))) (member (codes "c") (n 3) no_members))

abbrev doc : Tree
doc = with_inner inner

abbrev set : List ℕ → Option Tree
set s = set_made (tokens_of s) (n 7) doc

-- what stands there is replaced
the-whole : set (codes "") ≡ Some (n 7)
the-whole = refl

a-member : set (codes "/a/1/b") ≡ Some (with_inner (obj (member (codes "b") (n 7) no_members)))
a-member = refl

an-item : set (codes "/a/1") ≡ Some (with_inner (n 7))
an-item = refl

-- a key that is missing goes last, and the tokens behind it each make an object
a-new-member : set (codes "/a/1/d") ≡ Some (with_inner (obj (member (codes "b") (n 2) (member (codes "d") (n 7) no_members))))
a-new-member = refl

new-objects : set (codes "/a/1/d/0/") ≡ Some (with_inner (obj (member (codes "b") (n 2) (member (codes "d") (obj (member (codes "0") (obj (member (codes "") (n 7) no_members)) no_members)) no_members))))
new-objects = refl

-- an array takes no item, and a scalar is not overwritten
no-item : set (codes "/a/2") ≡ None
no-item = refl

no-item-behind : set (codes "/a/-") ≡ None
no-item-behind = refl

no-object-in-an-item : set (codes "/a/0/d") ≡ None
no-object-in-an-item = refl

no-object-in-a-member : set (codes "/c/d/e") ≡ None
no-object-in-a-member = refl
