-- A map of std with the entries a: 1, and objects that are the same as it or not. Values are compared as trees.
use Rattle.std.proofs.Common.{◌≡◌, ℕ, List, [], ◌∷◌, pos, refl, codes, true≢false, sym, None}
use Rattle.sj_text_core.specs.Tree.{u64, Tree, Members, int, no_members, member}
use Rattle.sj_text_core.specs.declared.repeats.Repeats.{Repeats}
use Rattle.sj_text_core.specs.declared.repeats.Repeats.TheVariants.{First, Last}
use Rattle.sj_lazy.specs.SameMap.{SameAsMap, counted}
use Rattle.sj_document.specs.inner.SameWith.{EachFound, HasKeys}

abbrev n : ℕ → Tree
n m = int (pos m) u64

abbrev text : List ℕ → List ℕ
text s = s

abbrev Is : Repeats × Tree → Tree → Type 0
Is p u = p.1 ≡ u

-- a: 1
abbrev a1 : List (List ℕ × Tree)
a1 = (codes "a", n 1) ∷ []

-- {"a":1,"a":2}
abbrev aa : Members
aa = member (codes "a") (n 1) (member (codes "a") (n 2) no_members)

-- {"a":1,"b":1}
abbrev ab : Members
ab = member (codes "a") (n 1) (member (codes "b") (n 1) no_members)

-- of repeats the one that counts is compared
first-found : EachFound (λ u x. Is (First, u) x) text (counted First aa) a1
first-found = (refl, tt)

last-found : EachFound (λ u x. Is (Last, u) x) text (counted Last aa) ((codes "a", n 2) ∷ [])
last-found = (refl, tt)

-- a missing key is not found
none-found : EachFound (λ u x. Is (First, u) x) text (counted First no_members) a1 → ⊥
none-found h = h.0

-- a key more is one too many
one_more : HasKeys text (codes "a" ∷ codes "b" ∷ []) a1 → ⊥
one_more h = true≢false (sym (h (codes "b") refl))

-- anything but an object is no map
no_object : SameAsMap Is text First None a1 → ⊥
no_object h = h
