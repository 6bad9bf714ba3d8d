use Rattle.std.proofs.Common.{arith}
use Rattle.sj_text_core.specs.inner.Parse.{is_space}
use Rattle.sj_print.proofs.Runs.{run_bound}
use Rattle.sj_tape.proofs.Blanks.{solid_rest, space_rest, blank_rest}
use Rattle.sj_tape.proofs.reader.blank.skip.Goals as goal

pub returns-then-bytes-at-gt32-clause-rest : goal.returns-then-bytes-at-gt32-clause-rest
returns-then-bytes-at-gt32-clause-rest c = solid_rest c.args.bytes.now c.args.at c.if-at-bytes.true c.if-bytes-at-gt32.true

pub returns-then-bytes-at-gt32-2-clause-rest : goal.returns-then-bytes-at-gt32-2-clause-rest
returns-then-bytes-at-gt32-2-clause-rest c = space_rest c.args.bytes.now c.args.at c.if-at-bytes-2.true c.if-bytes-at-eq32.true c.if-bytes-at-gt32-2.true

pub returns-clause-low : goal.returns-clause-low
returns-clause-low c = omega (arith, c.blank_end.ensures)

pub returns-clause-high : goal.returns-clause-high
returns-clause-high c = omega (arith, c.blank_end.ensures, run_bound is_space c.args.bytes.now c.args.at c.requires)

pub returns-clause-rest : goal.returns-clause-rest
returns-clause-rest c = blank_rest c.args.bytes.now c.args.at c.blank_end.result c.blank_end.ensures
