-- Members from a place on, and the tree at one. Only private clauses cite it.
use Rattle.std.specs.Prelude.{ℕ, ◌+◌, ◌≤◌, List, get_or, take, drop, length}
use Rattle.sj_text_core.specs.Tree.{Tree, Members}
use Rattle.sj_text_core.specs.declared.repeats.Repeats.{Repeats}
use Rattle.sj_text_core.specs.Nodes.{Mark, nothing, width, tree_of, members_in}
use Rattle.sj_text_core.specs.inner.Nodes.{AreMembers}

-- the members whose nodes are those from the place on
abbrev pub members_at : List Mark → ℕ → Members
members_at ns place = members_in (drop place ns)

-- a member begins there, or the last one has ended
pub record MembersAhead (ns : List Mark) (place : ℕ) : Type 0 where
  pub inside : place ≤ length ns
  pub are : AreMembers (drop place ns)

-- the tree whose nodes begin there
abbrev pub tree_from : List Mark → ℕ → Tree
tree_from ns place = tree_of (drop place (take (place + width (get_or ns place nothing)) ns))

-- the same with a choice
abbrev pub part_from : Repeats → List Mark → ℕ → Repeats × Tree
part_from c ns place = (c, tree_from ns place)
