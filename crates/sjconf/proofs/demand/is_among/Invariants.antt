use Rattle.std.proofs.Common.{◌≡◌, length, string_bytes}
use Rattle.sj_document.specs.Document.{document_tree}
use Rattle.sjconf.specs.Demands.{is_same_as_one}
use Rattle.sjconf.proofs.demand.is_among.Given as goal

abbrev pub invariant-loop-rest : goal.invariant-loop-rest
invariant-loop-rest l = is_same_as_one (document_tree string_bytes l.value) l.rest ≡ is_same_as_one (document_tree string_bytes l.value) l.choices

abbrev pub decreases-loop-rest : goal.decreases-loop-rest
decreases-loop-rest l = length l.rest
