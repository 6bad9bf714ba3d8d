-- The nodes of a stretch of a tape.
use Rattle.std.specs.Prelude.{List}
use Rattle.sj_text_core.specs.Nodes.{Mark}
use Rattle.sj_tape.specs.Whole.{stretch}
use Rattle.sj_tape.specs.declared.nodes.Nodes.{Nodes}

-- however they lie
unfoldable pub nodes_in : Nodes → List Mark
nodes_in ns = stretch ns.lists.now ns.from ns.end
