use Rattle.std.proofs.Common.{arith}
use Rattle.sj_lines.proofs.LineLemmas.{trims, stays, trims-nothing}
use Rattle.sj_lines.proofs.length.trimmed_len.Goals.{else-len-gt0-via-then-len-gt0+else-bytes-len, else-len-gt0-via-else-len-gt0}
use Rattle.sj_lines.proofs.length.trimmed_len.Goals as goal

pub returns-then-bytes-len-clause-trimmed : goal.returns-then-bytes-len-clause-trimmed
returns-then-bytes-len-clause-trimmed c = trims c.args.last c.args.len c.args.bytes.now (omega arith) (omega arith) c.if-bytes-len.true

pub returns-else-len-gt0-clause-trimmed : goal.returns-else-len-gt0-clause-trimmed
returns-else-len-gt0-clause-trimmed c =
    elim c.else-len-gt0.branch [
      | else-len-gt0-via-then-len-gt0+else-bytes-len w ↦ stays c.args.last c.args.len c.args.bytes.now (omega arith) (omega arith) w.if-bytes-len.false
      | else-len-gt0-via-else-len-gt0 w ↦ trims-nothing c.args.last c.args.len c.args.bytes.now (omega arith)
    ]
