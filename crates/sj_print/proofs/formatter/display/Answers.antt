use Rattle.std.proofs.Common.{[], None, refl, sym, arith}
use Rattle.std.proofs.lemmas.Str.{IsUtf8-nil}
use Rattle.std.proofs.lemmas.Grind.{common_steps}
use Rattle.sj_print.proofs.formatter.display.Goals as goal

pub returns : goal.returns
returns g c = λ plain ok.
    let h = c.print.ensures None (tt {0}) (_, c.args.formatter.now) [] (IsUtf8-nil, (refl, λ p o. record { wrote = record { parts = []; calls = refl; whole = refl }; plain = p })) in
    let name = sym h.1.0 in
    let all = h.1.1 plain ok in grind (arith, common_steps, name, all)
