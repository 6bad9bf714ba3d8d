-- How deep the containers on a pile reach, the outermost first. Only private clauses cite it.
use Rattle.std.specs.Prelude.{◌↔◌, ◌+◌, ◌<◌, ◌≤◌, ℕ, suc, max, Bool, true, false, List, [], ◌∷◌, length}
use Rattle.std.specs.List.{sum_by}
use Rattle.sj_text_core.specs.Tree.{Tree, items_from, members_from, items_depth, members_depth}
use Rattle.sj_print.specs.inner.Piles.{items_weight, members_weight}
use Rattle.sj_document.specs.declared.value.depth.Ahead.{Ahead}
use Rattle.sj_document.specs.declared.value.depth.Ahead.TheVariants as ahead

module _ {I M : Type 0} (items : I → List Tree) (members : M → List (List ℕ × Tree)) where
  abbrev pub ahead_depth : Ahead I M → ℕ
  ahead_depth (ahead.Items i) = items_depth (items_from (items i))
  ahead_depth (ahead.Members m) = members_depth (members_from (members m))

  abbrev pub ahead_weight : Ahead I M → ℕ
  ahead_weight (ahead.Items i) = items_weight (items_from (items i))
  ahead_weight (ahead.Members m) = members_weight (members_from (members m))

  -- how deep all is that is left, where each holds the next
  abbrev pub reach : List (Ahead I M) → ℕ
  reach [] = 0
  reach (e ∷ pile) = suc (max (ahead_depth e) (reach pile))

  -- what there is to do
  abbrev pub ahead_left : List (Ahead I M) → ℕ
  ahead_left pile = sum_by (λ e. suc (ahead_weight e)) pile

  -- the new pile stands for a part of depth d and weight w on the old one; or that reaches too deep
  abbrev pub Reached : ℕ → List (Ahead I M) → ℕ → ℕ → Bool → List (Ahead I M) → Type 0
  Reached levels old d w true new = ((max (reach old) (length old + d) ≤ levels) ↔ (reach new ≤ levels)) × (length new ≤ levels) × (ahead_left new < w + ahead_left old)
  Reached levels old d w false new = levels < max (reach old) (length old + d)
