use Rattle.std.proofs.lemmas.Result.{IfOk-weaker}
use Rattle.sj_merge.proofs.Changes.{patch_leads, patch_nowhere}
use Rattle.sj_merge.proofs.difference.merge_diff.Goals as goal

pub returns-clause-leads : goal.returns-clause-leads
returns-clause-leads g c = IfOk-weaker c.patch_to.result _ _ (λ r h. patch_leads g.T.KeyText.text_of c.args.from.now c.args.to.now r h) c.patch_to.ensures

pub returns-clause-none : goal.returns-clause-none
returns-clause-none g c = IfOk-weaker c.patch_to.result _ _ (λ r h. patch_nowhere g.T.KeyText.text_of c.args.from.now c.args.to.now r h) c.patch_to.ensures
