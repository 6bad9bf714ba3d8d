-- The tree of one level of a value, whose parts are seen as their trees.
use Rattle.std.specs.Prelude.{ℕ, List}
use Rattle.sj_text_core.specs.Tree.{Tree, text, list, obj, items_from, members_from}
use Rattle.sj_text_core.specs.Scalars.{static_tree}
use Rattle.sj_print.specs.declared.parts.Level.{Level}
use Rattle.sj_print.specs.declared.parts.Level.TheVariants as level

abbrev pub level_tree : {I M : Type 0} → (I → List Tree) → (M → List (List ℕ × Tree)) → Level I M → Tree
level_tree items members (level.Static s) = static_tree s
level_tree items members (level.String s) = text s.now
level_tree items members (level.Plain p) = text p.text.now
level_tree items members (level.Array i) = list (items_from (items i))
level_tree items members (level.Object m) = obj (members_from (members m))
