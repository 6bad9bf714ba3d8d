use Rattle.std.proofs.Common.{take, string_bytes}
use Rattle.sj_document.specs.Document.{document_tree}
use Rattle.sjconf.specs.Demands.{Judged}
use Rattle.sjconf.proofs.verdicts.verdicts.Given as goal

abbrev pub invariant-loop-demand : goal.invariant-loop-demand
invariant-loop-demand l = Judged (document_tree string_bytes l.document) (take l.demand-index l.demands) l.verdicts.items
