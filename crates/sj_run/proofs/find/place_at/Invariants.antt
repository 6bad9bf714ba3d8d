use Rattle.std.proofs.Common.{◌≡◌, map, drop}
use Rattle.sj_commands.specs.Meant.{step_meant}
use Rattle.sj_text_core.specs.Paths.{tree_at_by}
use Rattle.sj_run.proofs.find.place_at.Given as goal

abbrev pub invariant-loop-step : goal.invariant-loop-step
invariant-loop-step g l =
    let P = g.P.Place in
    record {
      choice : P.choice l.at ≡ P.choice l.fn.place;
      ahead : tree_at_by (P.choice l.fn.place) (map step_meant (drop l.step-index l.path)) (g.P.Parts.tree_of l.at) ≡ tree_at_by (P.choice l.fn.place) (map step_meant l.path) (g.P.Parts.tree_of l.fn.place);
    }
