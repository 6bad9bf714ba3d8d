-- The members of an object that count, in the order of their texts. Only private clauses cite it.
use Rattle.std.specs.Prelude.{◌≡◌, ℕ, List, [], ◌∷◌, None, IsUtf8, reverse, bytes_eq, if◌then◌else◌}
use Rattle.sj_text_core.specs.Find.{find_member}
use Rattle.sj_text_core.specs.Tree.{Tree, members_from}
use Rattle.sj_text_core.specs.declared.repeats.Repeats.{Repeats}
use Rattle.sj_text_core.specs.declared.repeats.Repeats.TheVariants.{First, Last}
use Rattle.sj_canonical.specs.Canonical.{is_before}

-- a pair among others, in front of the first whose text does not stand before its own
abbrev pub sorted_in : List ℕ × Tree → List (List ℕ × Tree) → List (List ℕ × Tree)
sorted_in p [] = p ∷ []
sorted_in p (q ∷ qs) = if is_before q.0 p.0 then q ∷ sorted_in p qs else p ∷ q ∷ qs

-- pairs in the order of their texts
abbrev pub sorted : List (List ℕ × Tree) → List (List ℕ × Tree)
sorted [] = []
sorted (p ∷ ps) = sorted_in p (sorted ps)

-- of pairs in a row that have one text the first
abbrev pub thinned_from : List ℕ × Tree → List (List ℕ × Tree) → List (List ℕ × Tree)
thinned_from p [] = p ∷ []
thinned_from p (q ∷ qs) = if bytes_eq q.0 p.0 then thinned_from p qs else p ∷ thinned_from q qs

abbrev pub thinned : List (List ℕ × Tree) → List (List ℕ × Tree)
thinned [] = []
thinned (p ∷ ps) = thinned_from p ps

-- the one that counts is the first
abbrev pub by_choice : {X : Type 0} → Repeats → List X → List X
by_choice First xs = xs
by_choice Last xs = reverse xs

-- the pairs that count, in the order of their texts
abbrev pub picked : Repeats → List (List ℕ × Tree) → List (List ℕ × Tree)
picked c ps = thinned (sorted (by_choice c ps))

-- the texts of the pairs are UTF-8
abbrev pub AreTexts : List (List ℕ × Tree) → Type 0
AreTexts ps = (k : List ℕ) → (find_member k (members_from ps) ≡ None → ⊥) → IsUtf8 k
