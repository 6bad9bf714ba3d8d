use Rattle.std.proofs.Common.{map, string_bytes}
use Rattle.sj_pointer.proofs.Shown.{same_tokens, tokens_decide}
use Rattle.sj_patch.proofs.removals.is_same.Goals as goal

pub returns : goal.returns
returns c =
    let path = c.args.path.now in
    let other = c.args.other.now in
    let d = tokens_decide (map string_bytes path) (map string_bytes other) c.eq.result (same_tokens path other c.eq.result c.eq.ensures) in
    (λ e. d.0 e, λ e. d.1 e)
