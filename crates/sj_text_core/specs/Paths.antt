-- What stands at a path in a tree.
use Rattle.std.specs.Prelude.{ℕ, zero, suc, List, [], ◌∷◌, Option, Some, None, option_and_then}
use Rattle.sj_text_core.specs.Tree.{Tree, list, obj, Items, no_items, item}
use Rattle.sj_text_core.specs.Find.{nth}
use Rattle.sj_text_core.specs.Edits.{put}
use Rattle.sj_text_core.specs.Places.{position_of}
use Rattle.sj_text_core.specs.Repeats.{find_by}
use Rattle.sj_text_core.specs.declared.repeats.Repeats.{Repeats}
use Rattle.sj_text_core.specs.declared.repeats.Repeats.TheVariants.{First}

-- one step: to the member of a text, to an item by its place, or where a token of a pointer leads
pub data Step : Type 0 where
  by_key : List ℕ → Step
  by_place : ℕ → Step
  by_token : List ℕ → Step

-- what a token finds (RFC 6901, section 4): on an array the item at the position that it names, if it names one; on an object the value of the key
abbrev pub token_into_by : Repeats → List ℕ → Tree → Option Tree
token_into_by c k (list is) = option_and_then (λ i. nth i (list is)) (position_of k)
token_into_by c k t = find_by c k t

-- what one step finds, where the first or the last member of a text counts
abbrev pub step_into_by : Repeats → Step → Tree → Option Tree
step_into_by c (by_key k) t = find_by c k t
step_into_by c (by_place i) t = nth i t
step_into_by c (by_token k) t = token_into_by c k t

-- what stands at the path; absent where a step finds nothing
abbrev pub tree_at_by : Repeats → List Step → Tree → Option Tree
tree_at_by c [] t = Some t
tree_at_by c (s ∷ p) t = option_and_then (λ u. tree_at_by c p u) (step_into_by c s t)

-- the same, where the first counts
abbrev pub step_into : Step → Tree → Option Tree
step_into s t = step_into_by First s t

abbrev pub tree_at : List Step → Tree → Option Tree
tree_at p t = tree_at_by First p t

-- the items with u in the place of the i-th
abbrev pub set_item : ℕ → Tree → Items → Items
set_item i u no_items = no_items
set_item zero u (item t is) = item u is
set_item (suc i) u (item t is) = item t (set_item i u is)

-- the items with u in the place of the one at the position that a token names
abbrev pub set_placed : Option ℕ → Tree → Items → Items
set_placed None u is = is
set_placed (Some i) u is = set_item i u is

-- the tree with u in the place of what the step finds
abbrev pub set_found : Step → Tree → Tree → Tree
set_found (by_key k) u (obj ms) = obj (put k u ms)
set_found (by_place i) u (list is) = list (set_item i u is)
set_found (by_token k) u (list is) = list (set_placed (position_of k) u is)
set_found (by_token k) u (obj ms) = obj (put k u ms)
set_found s u t = t

-- changed by f in the place of what the step found
abbrev pub change_found : Option Tree → Step → (Tree → Tree) → Tree → Tree
change_found None s f t = t
change_found (Some u) s f t = set_found s (f u) t

-- the tree with u in the place of what stands at the path; the tree itself where nothing does
abbrev pub set_at : List Step → Tree → Tree → Tree
set_at [] u t = u
set_at (s ∷ p) u t = change_found (step_into s t) s (set_at p u) t
