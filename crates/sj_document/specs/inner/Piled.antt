-- What is still to be made of containers that are begun. Only private clauses cite it.
use Rattle.std.specs.Prelude.{◌≡◌, ℕ, ◌+◌, ◌*◌, ◌<◌, List, [], ◌∷◌, ◌++◌, map}
use Rattle.std.specs.List.{sum_by}
use Rattle.sj_text_core.specs.Tree.{Tree, list, obj, items_from, Members, no_members, members_from}
use Rattle.sj_text_core.specs.Edits as members
use Rattle.sj_object.specs.Entries.{Entry}
use Rattle.sj_object.specs.Members.{entry_members}
use Rattle.sj_print.specs.inner.Piles.{weight, items_weight, members_weight}
use Rattle.sj_document.specs.Document.{document_tree}
use Rattle.sj_document.specs.declared.value.Document.{Document}
use Rattle.sj_document.specs.declared.value.piled.Begun.{Begun}
use Rattle.sj_document.specs.declared.value.piled.Begun.TheVariants as begun
use Rattle.sj_document.specs.declared.value.piled.Waiting.{Waiting}
use Rattle.sj_document.specs.declared.value.piled.Waiting.TheVariants as waiting
use Rattle.sj_document.specs.declared.value.piled.Next.{Next}
use Rattle.sj_document.specs.declared.value.piled.Next.TheVariants as next

-- members with pairs put into them in turn
abbrev pub put_rest : Members → List (List ℕ × Tree) → Members
put_rest ms [] = ms
put_rest ms (p ∷ ps) = put_rest (members.put p.0 p.1 ms) ps

module _ {T I M : Type 0} (t : T → List ℕ) (items_left : I → List Tree) (members_left : M → List (List ℕ × Tree)) where
  -- a source's first level means the tree, in which no key stands twice
  abbrev pub Begins : Begun I M T → Tree → Type 0
  Begins (begun.Leaf d) u = document_tree t d ≡ u
  Begins (begun.Items i n) u = list (items_from (items_left i)) ≡ u
  Begins (begun.Members m n) u = (obj (members_from (members_left m)) ≡ u) × (put_rest no_members (members_left m) ≡ members_from (members_left m))

  -- an array of what is made and what is left
  abbrev pub items_tree : List (Document T) → I → Tree
  items_tree made i = list (items_from (map (document_tree t) made ++ items_left i))

  -- an object of what is made and what is left
  abbrev pub members_tree : List (Entry T (Document T)) → M → Tree
  members_tree made m = obj (put_rest (entry_members (document_tree t) made) (members_left m))

  -- with the part that it waits for
  abbrev pub with_part : Waiting I M T → Tree → Tree
  with_part (waiting.Items made i) u = list (items_from (map (document_tree t) made.items ++ u ∷ items_left i))
  with_part (waiting.Members made k m) u = obj (put_rest (members.put (t k) u (entry_members (document_tree t) made.entries)) (members_left m))

  -- the whole, where each holds the next and the last holds u
  abbrev pub whole_of : List (Waiting I M T) → Tree → Tree
  whole_of [] u = u
  whole_of (w ∷ pile) u = with_part w (whole_of pile u)

  abbrev pub items_left_weight : I → ℕ
  items_left_weight i = items_weight (items_from (items_left i))

  abbrev pub members_left_weight : M → ℕ
  members_left_weight m = members_weight (members_from (members_left m))

  abbrev pub waiting_weight : Waiting I M T → ℕ
  waiting_weight (waiting.Items made i) = 1 + items_left_weight i
  waiting_weight (waiting.Members made k m) = 1 + members_left_weight m

  -- what there is to do for the pile
  abbrev pub waiting_left : List (Waiting I M T) → ℕ
  waiting_left pile = sum_by waiting_weight pile

  module _ {S : Type 0} (tree_of : S → Tree) where
    abbrev pub next_tree : Next S T → Tree
    next_tree (next.Part s) = tree_of s
    next_tree (next.Made d) = document_tree t d

    abbrev pub todo : Next S T → ℕ
    todo (next.Part s) = 2 * weight (tree_of s)
    todo (next.Made d) = 1

    -- the new pile around what comes next is the old one around u, and there is less to do than w besides the old one
    abbrev pub StepsOn : List (Waiting I M T) → Tree → ℕ → Next S T → List (Waiting I M T) → Type 0
    StepsOn old u w n new = (whole_of new (next_tree n) ≡ whole_of old u) × (todo n + 2 * waiting_left new < w + 2 * waiting_left old)
