use Rattle.std.proofs.Common.{map, string_bytes}
use Rattle.sj_document.specs.Document.{document_tree}
use Rattle.sj_c.specs.Shown.{Shows, ShowsFrom}
use Rattle.sj_c.proofs.members.show_items.Given as goal

abbrev pub invariant-loop-at : goal.invariant-loop-at
invariant-loop-at l = ShowsFrom Shows l.from l.at l.out (map (document_tree string_bytes) l.items)
