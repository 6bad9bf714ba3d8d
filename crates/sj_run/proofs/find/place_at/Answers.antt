use Rattle.std.proofs.Common.{Some, None, option_map, sym, ap, ◌∙◌}
use Rattle.sj_commands.specs.Meant.{step_meant}
use Rattle.sj_text_core.specs.Paths.{step_into_by}
use Rattle.sj_run.proofs.Founds.{step_at}
use Rattle.sj_run.proofs.find.place_at.Goals as goal

pub returns-in_err-at-clause-value : goal.returns-in_err-at-clause-value
returns-in_err-at-clause-value g c =
    let t = g.P.Parts.tree_of in
    let l = c.loop-step in
    ap (option_map t) c.from_residual.ensures
    ∙ sym (step_at _ c.args.path.now l.step-index c.step-item.result (t l.at) None c.loop-step-test.true c.step-item.is
    (ap (λ k. step_into_by k (step_meant c.step-item.result) (t l.at)) (sym l.invariant.choice) ∙ sym c.in_err-at.ensures.value)) ∙ l.invariant.ahead

pub loop-step-preserved : goal.loop-step-preserved
loop-step-preserved g c =
    let t = g.P.Parts.tree_of in
    let l = c.loop-step in
    record {
      choice = c.in_ok-at.ensures.choice ∙ l.invariant.choice;
      ahead = sym (step_at _ c.args.path.now l.step-index c.step-item.result (t l.at) (Some (t c.in_ok-at.at)) c.loop-step-test.true c.step-item.is
          (ap (λ k. step_into_by k (step_meant c.step-item.result) (t l.at)) (sym l.invariant.choice) ∙ sym c.in_ok-at.ensures.value)) ∙ l.invariant.ahead;
    }
