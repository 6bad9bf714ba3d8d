use Rattle.std.proofs.Common.{◌-◌, refl, arith, length}
use Rattle.std.proofs.lemmas.Bool.{OnTrue_from, eqb-true}
use Rattle.sj_print.specs.inner.Runs.{is_stop, is_plain}
use Rattle.sj_print.proofs.Runs.{run_through, run_to_end, run_whole}
use Rattle.sj_print.proofs.output.plain.is_all_plain_far.Goals as goal

pub loop-i-preserved : goal.loop-i-preserved
loop-i-preserved c =
    let run = run_through is_stop is_plain (λ x. refl) c.args.text.now c.loop-i.i 16 (omega arith) (omega (arith, c.stops.ensures)) in
    (omega (arith, run, c.loop-i.invariant.0), omega arith)

pub returns : goal.returns
returns c = OnTrue_from _ _ (λ none.
    let d = c.args.text.now in
    run_whole is_plain d c.loop-i.i (length d - 16) (omega arith) c.loop-i.invariant.1 c.loop-i.invariant.0
    (run_to_end is_stop is_plain (λ x. refl) d 16 (omega arith) (omega (arith, c.stops-2.ensures, eqb-true _ _ none))))
