use Rattle.std.proofs.Common.{[], refl, sym, append-nil, arith}
use Rattle.std.proofs.lemmas.Str.{IsUtf8-nil}
use Rattle.std.proofs.Math.Seq.{take-length}
use Rattle.std.proofs.lemmas.Grind.{common_steps}
use Rattle.sj_print.proofs.output.growing.append_quoted.Goals as goal

pub returns-then-is_refused-clause-err : goal.returns-then-is_refused-clause-err
returns-then-is_refused-clause-err c =
    let old = c.reserve.new.self.items in
    let h = c.put_quoted-is_refused.ensures (_, old) [] (IsUtf8-nil, (refl, take-length old, λ e. sym (append-nil old))) in
    let name = sym h.1.0 in
    let front = h.1.1 in grind (arith, common_steps, name, front)

pub returns-clause-ok : goal.returns-clause-ok
returns-clause-ok c =
    let old = c.reserve.new.self.items in
    let h = c.put_quoted-is_refused.ensures (_, old) [] (IsUtf8-nil, (refl, take-length old, λ e. sym (append-nil old))) in
    let name = sym h.1.0 in
    let all = h.1.2 c.if-is_refused.false in grind (arith, common_steps, name, all)
