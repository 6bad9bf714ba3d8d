use Rattle.std.proofs.Common.{◌≤◌, ◌-◌, ◌++◌, length, drop, flat_map}
use Rattle.sj_text_core.specs.Print.{escaped}
use Rattle.sj_print.specs.inner.Outputs.{Towards}
use Rattle.sj_print.proofs.output.quote.put_runs.Given as goal

abbrev pub invariant-loop-out : goal.invariant-loop-out
invariant-loop-out g l = record {
  within : l.at ≤ length l.text;
  put : Towards g.O.Output.holds l.fn.out l.out (flat_map escaped (drop l.at l.text) ++ l.behind) (l.before ++ (flat_map escaped l.text ++ l.behind));
}

abbrev pub decreases-loop-out : goal.decreases-loop-out
decreases-loop-out g l = length l.text - l.at
