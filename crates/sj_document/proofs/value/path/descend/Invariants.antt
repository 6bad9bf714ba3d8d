use Rattle.std.proofs.Common.{◌-◌, length, map}
use Rattle.sj_document.specs.Document.{document_tree}
use Rattle.sj_document.proofs.Descents.{Underway}
use Rattle.sj_document.proofs.value.path.descend.Given as goal

abbrev pub invariant-loop-depth : goal.invariant-loop-depth
invariant-loop-depth g l = let t = g.T.KeyText.text_of in Underway (map g.W.Leads.step_of l.path) (document_tree t l.fn.value) (document_tree t l.value) (document_tree t l.up) l.depth

abbrev pub decreases-loop-depth : goal.decreases-loop-depth
decreases-loop-depth g l = length l.path - l.depth
