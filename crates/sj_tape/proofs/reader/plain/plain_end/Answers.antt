use Rattle.std.proofs.Common.{refl, sym, ap, ◌∙◌, arith}
use lib.Count.{count_trailing_zeros}
use Rattle.sj_print.specs.inner.Runs.{is_stop, is_plain}
use Rattle.sj_print.proofs.Runs.{run_bound, run_through, run_stops}
use Rattle.sj_tape.proofs.reader.plain.plain_end.Goals as goal

pub returns-then-bytes-from-lt16-clause-bound : goal.returns-then-bytes-from-lt16-clause-bound
returns-then-bytes-from-lt16-clause-bound c = omega (arith, c.plain_end_slowly.ensures, run_bound is_plain c.args.bytes.now c.args.from c.requires)

pub returns-then-found-eq0-clause-value : goal.returns-then-found-eq0-clause-value
returns-then-found-eq0-clause-value c =
    let run = run_through is_stop is_plain (λ x. refl) c.args.bytes.now c.args.from 16 (omega arith) (omega (arith, c.stops_16-found.ensures)) in
    omega (arith, run, c.plain_end_far.ensures)

pub returns-then-found-eq0-clause-bound : goal.returns-then-found-eq0-clause-bound
returns-then-found-eq0-clause-bound c =
    let run = run_through is_stop is_plain (λ x. refl) c.args.bytes.now c.args.from 16 (omega arith) (omega (arith, c.stops_16-found.ensures)) in
    omega (arith, run, c.plain_end_far.ensures, run_bound is_plain c.args.bytes.now c.args.from c.requires)

pub returns-clause-value : goal.returns-clause-value
returns-clause-value c =
    let found = c.stops_16-found in
    let run = run_stops is_stop is_plain (λ x. refl) c.args.bytes.now c.args.from 16 (omega arith) (omega arith) (omega (arith, found.ensures)) ∙ ap (count_trailing_zeros 64) (sym found.ensures) in
    omega (arith, run)

pub returns-clause-bound : goal.returns-clause-bound
returns-clause-bound c =
    let found = c.stops_16-found in
    let run = run_stops is_stop is_plain (λ x. refl) c.args.bytes.now c.args.from 16 (omega arith) (omega arith) (omega (arith, found.ensures)) ∙ ap (count_trailing_zeros 64) (sym found.ensures) in
    omega (arith, run, run_bound is_plain c.args.bytes.now c.args.from c.requires)
