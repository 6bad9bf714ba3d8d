-- What packed nodes mean that are printed.
use Rattle.std.specs.Prelude.{ℕ, List}
use Rattle.sj_text_core.specs.Tree.{Tree, listed, paired}
use Rattle.sj_text_core.specs.Nodes.{tree_of, members_in}
use Rattle.sj_tape.specs.Marks.{packed_marks}
use Rattle.sj_tape.specs.Parts.{items_in}
use Rattle.sj_tape.specs.declared.value.packed_tree.PackedTree.{PackedTree}
use Rattle.sj_tape.specs.declared.value.packed_tree.PackedItems.{PackedItems}
use Rattle.sj_tape.specs.declared.value.packed_tree.PackedMembers.{PackedMembers}

-- the tree that packed nodes list
abbrev pub packed_tree : PackedTree → Tree
packed_tree t = tree_of (packed_marks t.nodes.now)

-- the items that are left
abbrev pub packed_items : PackedItems → List Tree
packed_items it = listed (items_in (packed_marks it.nodes.now))

-- the members that are left
abbrev pub packed_members : PackedMembers → List (List ℕ × Tree)
packed_members it = paired (members_in (packed_marks it.nodes.now))
