use Rattle.std.proofs.Common.{sym, ap, ◌∙◌, arith}
use lib.Count.{count_trailing_zeros}
use Rattle.sj_text_core.specs.inner.Parse.{is_space}
use Rattle.sj_tape.specs.inner.Run.{is_solid}
use Rattle.sj_print.proofs.Runs.{run_through, run_stops}
use Rattle.sj_tape.proofs.Blanks.{not-not}
use Rattle.sj_tape.proofs.reader.blank.blank_end.Goals as goal

pub returns-then-found-ne0 : goal.returns-then-found-ne0
returns-then-found-ne0 c =
    let found = c.solid_lanes-found in
    let run = run_stops is_solid is_space (λ x. not-not (is_space x)) c.args.bytes.now c.loop-at.at 16 (omega arith) (omega arith) (omega (arith, found.ensures)) ∙ ap (count_trailing_zeros 64) (sym found.ensures) in
    omega (arith, run, c.loop-at.invariant.0)

pub loop-at-preserved : goal.loop-at-preserved
loop-at-preserved c =
    let run = run_through is_solid is_space (λ x. not-not (is_space x)) c.args.bytes.now c.loop-at.at 16 (omega arith) (omega (arith, c.solid_lanes-found.ensures)) in
    (omega (arith, run, c.loop-at.invariant.0), omega arith)
