-- First and last members of small trees.
use Rattle.std.proofs.Common.{◌≡◌, ℕ, pos, refl, codes, Some, None}
use Rattle.sj_text_core.specs.Tree.{u64, Tree, int, list, obj, no_items, item, no_members, member}
use Rattle.sj_text_core.specs.Find.{find}
use Rattle.sj_text_core.specs.Keep.{keep}
use Rattle.sj_text_core.specs.Same.{Same}
use Rattle.sj_text_core.specs.Repeats.{find_by, keep_by, SameBy, visited_in}
use Rattle.sj_text_core.specs.declared.repeats.Repeats.TheVariants.{First, Last}

abbrev n : ℕ → Tree
n m = int (pos m) u64

-- {"a":1,"b":2,"a":3}
abbrev aba : Tree
aba = obj (member (codes "a") (n 1) (member (codes "b") (n 2) (member (codes "a") (n 3) no_members)))

-- for First each word is the old one
find-first : (t : Tree) → find_by First (codes "a") t ≡ find (codes "a") t
find-first t = refl

keep-first : (t : Tree) → keep_by First t ≡ keep t
keep-first t = refl

same-first : (t u : Tree) → ◌≡◌ {A = Type 0} (SameBy First First t u) (Same t u)
same-first t u = refl

find-last : find_by Last (codes "a") aba ≡ Some (n 3)
find-last = refl

find-other : find_by Last (codes "b") aba ≡ Some (n 2)
find-other = refl

find-absent : find_by Last (codes "c") aba ≡ None
find-absent = refl

find-first-row : find_by First (codes "a") aba ≡ Some (n 1)
find-first-row = refl

-- {"a":3,"b":2}
keep-last : keep_by Last aba ≡ obj (member (codes "a") (n 3) (member (codes "b") (n 2) no_members))
keep-last = refl

-- {"a":1,"b":{"c":4,"c":5},"a":[6]}
keep-deep : keep_by Last (obj (member (codes "a") (n 1) (member (codes "b") (obj (member (codes "c") (n 4) (member (codes "c") (n 5) no_members))) (member (codes "a") (list (item (n 6) no_items)) no_members))))
    ≡ obj (member (codes "a") (list (item (n 6) no_items)) (member (codes "b") (obj (member (codes "c") (n 5) no_members)) no_members))
keep-deep = refl

visited-last : visited_in Last (codes "a") aba ≡ 3
visited-last = refl

visited-first : visited_in First (codes "b") aba ≡ 2
visited-first = refl
