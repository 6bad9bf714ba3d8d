use Rattle.std.proofs.Common.{rules, ◌+◌, ◌^◌, ◌≤◌, take_all, ap, arith}
use Rattle.std.proofs.lemmas.List.{length-map}
use Rattle.sj_print.specs.inner.Printed.{mark_len, marks_len}
use Rattle.sj_tape.specs.Marks.{packed_mark, packed_marks}
use Rattle.sj_tape.proofs.PackedCounts.{marks_len_more, marks_len_within}
use Rattle.sj_tape.proofs.value.packed_count.count_compact.Goals as goal

pub loop-node-preserved : goal.loop-node-preserved
loop-node-preserved c =
    let node = c.node-item.result in
    let more = marks_len_more c.args.nodes.now c.loop-node.node-index node c.loop-node-test.true in (
      omega (arith, c.in_ok-end.ensures.ok, c.loop-node.invariant.0, ap (λ n. mark_len (packed_mark n)) c.node-item.is, more),
      omega (arith, c.in_ok-end.ensures.ok, c.in_ok-end.ensures.fits),
    )

pub returns-in_err-end-clause-err : goal.returns-in_err-end-clause-err
returns-in_err-end-clause-err c =
    let node = c.node-item.result in
    let within = marks_len_within c.args.nodes.now (c.loop-node.node-index + 1) in
    let more = marks_len_more c.args.nodes.now c.loop-node.node-index node c.loop-node-test.true in
    let whole : 2 ^ 64 ≤ c.args.before + marks_len (packed_marks c.args.nodes.now) = omega (arith, c.in_err-end.ensures.err, within, more, c.loop-node.invariant.0, ap (λ n. mark_len (packed_mark n)) c.node-item.is) in search (rules, whole)

pub returns-clause-fits : goal.returns-clause-fits
returns-clause-fits c =
    let all = ap (λ l. marks_len l) (take_all c.loop-node.node-index (packed_marks c.args.nodes.now) (omega (arith, length-map c.args.nodes.now packed_mark))) in omega (arith, c.loop-node.invariant.0, c.loop-node.invariant.1, all)
