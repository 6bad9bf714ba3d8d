-- The tree that a document of a user's own means.
use Rattle.std.specs.Prelude.{ℕ, List, string_bytes}
use Rattle.sj_text_core.specs.Tree.{Tree, text, list, obj, items_from}
use Rattle.sj_text_core.specs.Scalars.{static_tree}
use Rattle.sj_object.specs.Members.{entry_members}
use Rattle.sj_tests.specs.declared.plain.Plain.{Plain, fold-Plain}
use Rattle.sj_tests.specs.declared.plain.Plain.TheOpen.{Plain-F}

abbrev pub open_tree : Plain-F Tree → Tree
open_tree (Plain-F.Scalar s) = static_tree s
open_tree (Plain-F.Text s) = text (string_bytes s)
open_tree (Plain-F.Items v) = list (items_from v.items)
open_tree (Plain-F.Members m) = obj (entry_members (λ u. u) m.entries)

abbrev pub tree : Plain → Tree
tree = fold-Plain Tree open_tree
