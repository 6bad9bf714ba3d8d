-- What a part of a tape means.
use Rattle.std.specs.Prelude.{ℕ, List, Option, Some, None}
use Rattle.sj_text_core.specs.Tree.{Tree, null, boolean, int, text, list, obj}
use Rattle.sj_text_core.specs.Nodes.{tree_of}
use Rattle.sj_text_core.specs.Print.{compact}
use Rattle.sj_text_core.specs.Repeats.{find_by}
use Rattle.sj_text_core.specs.declared.repeats.Repeats.{Repeats}
use Rattle.sj_tape.specs.Stretches.{nodes_in}
use Rattle.sj_tape.specs.declared.value.Value.{Value}

-- the tree that a part of a tape lists
abbrev pub tape_tree : Value → Tree
tape_tree v = tree_of (nodes_in v.nodes)

-- which member of several with one key counts in the part
abbrev pub tape_choice : Value → Repeats
tape_choice v = v.repeats

-- a part of a tape as contracts see it
abbrev pub tape_part : Value → Repeats × Tree
tape_part v = (tape_choice v, tape_tree v)

-- the value of the member with the text that counts in the part
abbrev pub tape_found : Value → List ℕ → Option Tree
tape_found v k = find_by (tape_choice v) k (tape_tree v)

-- the tree itself, where it is a null, a truth value or a whole number
abbrev pub as_scalar : Tree → Option Tree
as_scalar null = Some null
as_scalar (boolean b) = Some (boolean b)
as_scalar (int n c) = Some (int n c)
as_scalar (text s) = None
as_scalar (list is) = None
as_scalar (obj ms) = None

-- a text is displayed as it is, all else as its compact print
abbrev pub displayed : Tree → List ℕ
displayed null = compact null
displayed (boolean b) = compact (boolean b)
displayed (int n c) = compact (int n c)
displayed (text s) = s
displayed (list is) = compact (list is)
displayed (obj ms) = compact (obj ms)
