-- What is left of a canonical print while containers stand open. Only private clauses cite it.
use Rattle.std.specs.Prelude.{◌≡◌, ℕ, ◌<◌, Bool, true, false, List, [], ◌∷◌, ◌++◌, length, map}
use Rattle.std.specs.Vec.Iter.{into_iter_items}
use Rattle.sj_text_core.specs.Print.{quoted, compact}
use Rattle.sj_text_core.specs.Tree.{Tree}
use Rattle.sj_text_core.specs.declared.repeats.Repeats.{Repeats}
use Rattle.sj_canonical.specs.Canonical.{canonical_by}
use Rattle.sj_canonical.specs.declared.walk.Ahead.{Ahead}
use Rattle.sj_canonical.specs.declared.walk.Ahead.TheVariants as ahead
use Rattle.sj_canonical.specs.declared.walk.Open.{Open}

-- bytes were appended, one at least; with what is left now they make what was left
pub record Moves (old new left now : List ℕ) : Type 0 where
  pub done : List ℕ
  pub some : 0 < length done
  pub put : new ≡ old ++ done
  pub makes : done ++ now ≡ left

-- what stands before a part
abbrev pub before_part : Bool → List ℕ
before_part false = []
before_part true = 44 ∷ []

module _ (c : Repeats) where
  -- what is left of an array's canonical print
  abbrev pub items_rest : Bool → List Tree → List ℕ
  items_rest begun [] = 93 ∷ []
  items_rest begun (t ∷ ts) = before_part begun ++ (compact (canonical_by c t) ++ items_rest true ts)

  -- and so of an object's, whose members are those that count, in order
  abbrev pub members_rest : Bool → List (List ℕ × Tree) → List ℕ
  members_rest begun [] = 125 ∷ []
  members_rest begun (p ∷ ps) = before_part begun ++ (quoted p.0 ++ 58 ∷ (compact (canonical_by c p.1) ++ members_rest true ps))

module _ {K V : Type 0} (key : K → List ℕ) (tree : V → Tree) where
  abbrev pub pair_of : K × V → List ℕ × Tree
  pair_of p = (key p.0, tree p.1)

module _ {I K V : Type 0} (c : Repeats) (items : I → List Tree) (key : K → List ℕ) (tree : V → Tree) where
  abbrev pub ahead_rest : Bool → Ahead I K V → List ℕ
  ahead_rest begun (ahead.Items i) = items_rest c begun (items i)
  ahead_rest begun (ahead.Members m) = members_rest c begun (map (pair_of key tree) (into_iter_items m))

  abbrev pub open_rest : Open I K V → List ℕ
  open_rest e = ahead_rest e.is_begun e.ahead

  -- what is left of all prints, the innermost first
  abbrev pub canonical_rest : List (Open I K V) → List ℕ
  canonical_rest [] = []
  canonical_rest (e ∷ pile) = canonical_rest pile ++ open_rest e
