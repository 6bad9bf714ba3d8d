use Rattle.std.proofs.Common.{sym, ◌∙◌}
use Rattle.sj_commands.proofs.LineLemmas.{passed-more, line_at, marked}
use Rattle.sj_commands.proofs.lines.cut_at_mark.Goals as goal

pub loop-at-preserved : goal.loop-at-preserved
loop-at-preserved c =
    let b = c.args.input.now in
    let at = c.loop-at.at in
    let n = c.line_len.result in
    passed-more b at n c.loop-at.invariant (line_at b at n c.line_len.ensures.within c.line_len.ensures.first) (sym (marked b at n) ∙ sym c.if-is_mark.ensures)
