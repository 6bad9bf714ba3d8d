use Rattle.std.proofs.Common.{◌≡◌, ◌++◌, length, sym, subst}
use Rattle.std.proofs.lemmas.Bool.{OnTrue_at}
use Rattle.std.specs.List.{prefix_len}
use Rattle.sj_print.specs.inner.Runs.{is_plain}
use Rattle.sj_print.specs.Outputs.{Appends}
use Rattle.sj_print.proofs.Escapes.{escaped_all_plain}
use Rattle.sj_print.proofs.Puts.{appends_escaped}
use Rattle.sj_print.proofs.output.Output.put_text.Goals as goal

pub returns-then-is_all_plain : goal.returns-then-is_all_plain
returns-then-is_all_plain g c =
    let o = c.as_bytes-before.result.now in
    let t = c.as_bytes-bytes.result.now in
    let e = c.as_bytes-behind.result.now in
    let all = OnTrue_at {P = prefix_len is_plain t ≡ length t} c.if-is_all_plain.true c.is_all_plain.ensures in
    appends_escaped g.Self.Output.holds _ _ o t e _ _ _ c.as_bytes-before.ensures.value c.as_bytes-bytes.ensures.value c.as_bytes-behind.ensures.value
    c.as_bytes-before.ensures.utf8 c.as_bytes-bytes.ensures.utf8 c.as_bytes-behind.ensures.utf8
    (subst (λ p. Appends g.Self.Output.holds c.args.self c.put_between.result (o ++ (p ++ e))) (sym (escaped_all_plain t all)) c.put_between.ensures)

pub returns-else-is_all_plain : goal.returns-else-is_all_plain
returns-else-is_all_plain g c =
    appends_escaped g.Self.Output.holds _ _ _ _ _ _ _ _ c.as_bytes-before.ensures.value c.as_bytes-bytes.ensures.value c.as_bytes-behind.ensures.value
    c.as_bytes-before.ensures.utf8 c.as_bytes-bytes.ensures.utf8 c.as_bytes-behind.ensures.utf8 c.put_runs.ensures
