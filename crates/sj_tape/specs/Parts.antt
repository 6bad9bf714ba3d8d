-- What stretches of nodes list.
use Rattle.std.specs.Prelude.{List, length}
use Rattle.sj_text_core.specs.Tree.{Items}
use Rattle.sj_text_core.specs.Nodes.{Mark, trees_of, items_of}

-- the items whose nodes follow one another
abbrev pub items_in : List Mark → Items
items_in ns = items_of (length ns) (trees_of ns)
