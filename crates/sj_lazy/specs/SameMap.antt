-- A lazy value compared with a map of std.
use Rattle.std.specs.Prelude.{ℕ, List, Option, Some, None}
use Rattle.sj_text_core.specs.Tree.{Tree, Members}
use Rattle.sj_text_core.specs.Repeats.{find_member_by}
use Rattle.sj_text_core.specs.declared.repeats.Repeats.{Repeats}
use Rattle.sj_document.specs.SameWith.{SameTexts}

-- the members that count, as lazy values are seen
abbrev pub counted : Repeats → Members → List ℕ → Option Tree
counted c ms k = find_member_by c k ms

-- an object of which each text has the same as the map; R compares a lazy value, as its choice and its tree
abbrev pub SameAsMap : {X L : Type 0} → (Repeats × Tree → X → Type 0) → (L → List ℕ) → Repeats → Option Members → List (L × X) → Type 0
SameAsMap R text c None ps = ⊥
SameAsMap R text c (Some ms) ps = SameTexts (λ u x. R (c, u) x) text (counted c ms) ps
