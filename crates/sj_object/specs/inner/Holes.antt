-- What private clauses alone cite beside Holes.
use Rattle.std.specs.Prelude.{ℕ, List, [], ◌∷◌, if◌then◌else◌, nat_le}
use denote.Struct.Props.{props}
use Rattle.sj_object.specs.inner.Chains.{lowered}
use Rattle.sj_object.specs.Holes.{AreHoles}

-- the place among the members that are there of a place in the table, which is no hole
abbrev pub lowered_by : List ℕ → ℕ → ℕ
lowered_by [] p = p
lowered_by (q ∷ qs) p = lowered_by qs (lowered q p)

pub AreHoles-prop : (g : ℕ) (qs : List ℕ) (n : ℕ) → IsProp (AreHoles g qs n)
AreHoles-prop g [] n = hlevel props
AreHoles-prop g (q ∷ qs) n = hlevel (props, AreHoles-prop g qs q)

-- one more among them
abbrev pub with_hole : ℕ → List ℕ → List ℕ
with_hole s [] = s ∷ []
with_hole s (q ∷ qs) = if nat_le s q then q ∷ with_hole s qs else s ∷ q ∷ qs
