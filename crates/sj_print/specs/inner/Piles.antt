-- What is still to be printed of containers that stand open. Only private clauses cite it.
use Rattle.std.specs.Prelude.{ℕ, suc, ◌+◌, ◌≤◌, Bool, true, false, List, [], ◌∷◌, ◌++◌, Option, ⊤}
use Rattle.std.specs.List.{sum_by}
use Rattle.sj_text_core.specs.Tree.{Tree, null, boolean, int, text, list, obj, Items, no_items, item, items_from, Members, no_members, member, members_from}
use Rattle.sj_print.specs.Layouts.{IsLayout, deeper, laid}
use Rattle.sj_print.specs.inner.Layouts.{items_end, members_end}
use Rattle.sj_print.specs.Outputs.{HoldsText}
use Rattle.sj_print.specs.inner.Outputs.{Towards}
use Rattle.sj_print.specs.declared.layout.Layout.{Layout}
use Rattle.sj_print.specs.declared.print.Ahead.{Ahead}
use Rattle.sj_print.specs.declared.print.Ahead.TheVariants as ahead
use Rattle.sj_print.specs.declared.print.Open.{Open}

-- how much there is to do for a tree: more than for its parts and for a container with them on the pile
abbrev mutual
  pub weight : Tree → ℕ
  weight null = 1
  weight (boolean b) = 1
  weight (int n c) = 1
  weight (text s) = 1
  weight (list is) = 2 + items_weight is
  weight (obj ms) = 2 + members_weight ms

  pub items_weight : Items → ℕ
  items_weight no_items = 0
  items_weight (item t is) = weight t + items_weight is

  pub members_weight : Members → ℕ
  members_weight no_members = 0
  members_weight (member k t ms) = weight t + members_weight ms

-- what stands before an array's items: its beginning, or a comma
abbrev pub items_mark : Bool → ℕ
items_mark false = 91
items_mark true = 44

-- and so of an object's members
abbrev pub members_mark : Bool → ℕ
members_mark false = 123
members_mark true = 44

-- what is left of an array's print: of all of it, or behind an item
abbrev pub items_laid : Bool → Option ℕ → Items → List ℕ
items_laid false s is = laid s (list is)
items_laid true s is = items_end s is

-- and so of an object's
abbrev pub members_laid : Bool → Option ℕ → Members → List ℕ
members_laid false s ms = laid s (obj ms)
members_laid true s ms = members_end s ms

-- the layout of what comes next, where the outermost has this one
abbrev pub inner : {I M : Type 0} → Option ℕ → List (Open I M) → Option ℕ
inner s [] = s
inner s (e ∷ pile) = inner (deeper s) pile

-- each has the layout of its level
abbrev pub AreLaid : {I M : Type 0} → Option ℕ → List (Open I M) → Type 0
AreLaid s [] = ⊤
AreLaid s (e ∷ pile) = IsLayout e.layout s × AreLaid (deeper s) pile

module _ {I M : Type 0} (items : I → List Tree) (members : M → List (List ℕ × Tree)) where
  -- the tree of the parts that are left
  abbrev pub ahead_tree : Ahead I M → Tree
  ahead_tree (ahead.Items i) = list (items_from (items i))
  ahead_tree (ahead.Members m) = obj (members_from (members m))

  abbrev pub ahead_weight : Ahead I M → ℕ
  ahead_weight (ahead.Items i) = items_weight (items_from (items i))
  ahead_weight (ahead.Members m) = members_weight (members_from (members m))

  -- what is left of its print
  abbrev pub ahead_laid : Bool → Option ℕ → Ahead I M → List ℕ
  ahead_laid begun s (ahead.Items i) = items_laid begun s (items_from (items i))
  ahead_laid begun s (ahead.Members m) = members_laid begun s (members_from (members m))

  abbrev pub open_laid : Option ℕ → Open I M → List ℕ
  open_laid s e = ahead_laid e.is_begun s e.ahead

  abbrev pub open_weight : Open I M → ℕ
  open_weight e = 1 + ahead_weight e.ahead

  -- what there is to do for the whole pile
  abbrev pub pile_weight : List (Open I M) → ℕ
  pile_weight pile = sum_by open_weight pile

  -- what is left of all prints, the innermost first
  abbrev pub laid_rest : Option ℕ → List (Open I M) → List ℕ
  laid_rest s [] = []
  laid_rest s (e ∷ pile) = laid_rest (deeper s) pile ++ open_laid s e

  -- with what is left on the new pile, that is the part and what was left on the old one
  abbrev pub PilesUp : {S O : Type 0} → (S → O → List ℕ → Type 0) → List (Open I M) → O → List (Open I M) → O → Layout → (Option ℕ → List ℕ) → Type 0
  PilesUp holds old a new b layout part = (s : Option ℕ) → AreLaid s old → IsLayout layout (inner s old) → AreLaid s new × Towards (HoldsText holds) a b (laid_rest s new) (part (inner s old) ++ laid_rest s old)
