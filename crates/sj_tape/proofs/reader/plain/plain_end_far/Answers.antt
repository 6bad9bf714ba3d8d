use Rattle.std.proofs.Common.{refl, sym, ap, ◌∙◌, arith}
use lib.Count.{count_trailing_zeros}
use Rattle.sj_print.specs.inner.Runs.{is_stop, is_plain}
use Rattle.sj_print.proofs.Runs.{run_through, run_stops}
use Rattle.sj_tape.proofs.reader.plain.plain_end_far.Goals as goal

pub returns-then-found-ne0 : goal.returns-then-found-ne0
returns-then-found-ne0 c =
    let found = c.stops_32-found in
    let run = run_stops is_stop is_plain (λ x. refl) c.args.bytes.now c.loop-at.at 32 (omega arith) (omega arith) (omega (arith, found.ensures)) ∙ ap (count_trailing_zeros 64) (sym found.ensures) in
    omega (arith, run, c.loop-at.invariant.0)

pub loop-at-preserved : goal.loop-at-preserved
loop-at-preserved c =
    let run = run_through is_stop is_plain (λ x. refl) c.args.bytes.now c.loop-at.at 32 (omega arith) (omega (arith, c.stops_32-found.ensures)) in
    (omega (arith, run, c.loop-at.invariant.0), omega arith)
