use Rattle.std.proofs.Common.{◌≡◌, ◌++◌, length, sym, subst}
use Rattle.std.specs.List.{prefix_len}
use Rattle.sj_print.specs.inner.Runs.{is_plain}
use Rattle.sj_print.specs.Outputs.{Appends}
use Rattle.sj_print.proofs.Escapes.{escaped_all_plain}
use Rattle.sj_print.proofs.Puts.{appends_escaped}
use Rattle.sj_print.proofs.output.Output.put_plain.Goals as goal

pub returns : goal.returns
returns g c =
    let o = c.as_bytes-before.result.now in
    let t = c.as_bytes-bytes.result.now in
    let e = c.as_bytes-behind.result.now in
    let all = subst (λ t. prefix_len is_plain t ≡ length t) (sym c.as_bytes-bytes.ensures.value) c.args.plain.plain in
    appends_escaped g.Self.Output.holds _ _ o t e _ _ _ c.as_bytes-before.ensures.value c.as_bytes-bytes.ensures.value c.as_bytes-behind.ensures.value
    c.as_bytes-before.ensures.utf8 c.as_bytes-bytes.ensures.utf8 c.as_bytes-behind.ensures.utf8
    (subst (λ p. Appends g.Self.Output.holds c.args.self c.put_between.result (o ++ (p ++ e))) (sym (escaped_all_plain t all)) c.put_between.ensures)
