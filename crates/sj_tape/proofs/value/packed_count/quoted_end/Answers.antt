use Rattle.std.proofs.Common.{rules, ◌+◌, ◌^◌, ◌≤◌, length, arith}
use Rattle.sj_text_core.specs.Print.{quoted}
use Rattle.sj_tape.proofs.PackedCounts.{plain_len}
use Rattle.sj_tape.proofs.value.packed_count.quoted_end.Goals as goal

pub returns-in_err-checked_add-clause-none : goal.returns-in_err-checked_add-clause-none
returns-in_err-checked_add-clause-none c =
    let long = plain_len c.args.plain.text.now c.args.plain.plain in
    let whole : 2 ^ 64 ≤ c.args.begin + length (quoted c.args.plain.text.now) = omega (arith, c.in_err-checked_add.ensures, long) in search (rules, whole)

pub returns-clause-some : goal.returns-clause-some
returns-clause-some c =
    let long = plain_len c.args.plain.text.now c.args.plain.plain in grind (arith, long, c.in_ok-checked_add.ensures, c.checked_add-2.ensures)

pub returns-clause-none : goal.returns-clause-none
returns-clause-none c =
    let long = plain_len c.args.plain.text.now c.args.plain.plain in grind (arith, long, c.in_ok-checked_add.ensures, c.checked_add-2.ensures)
