use Rattle.std.proofs.Common.{arith}
use Rattle.std.proofs.lemmas.List.{length-append}
use Rattle.std.proofs.lemmas.Str.{IsUtf8-append}
use Rattle.sj_text_core.specs.Print.{compact}
use Rattle.sj_text_core.specs.Scalars.{static_tree}
use Rattle.sj_print.proofs.output.count.CountOutput.put_static.Goals as goal

pub returns : goal.returns
returns c start b h =
    let part = compact (static_tree c.args.node) in
    (IsUtf8-append b part h.0 c.static_len.ensures.utf8, omega (arith, c.with.ensures, c.static_len.ensures.value, h.1, length-append b part))
