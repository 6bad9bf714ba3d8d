use Rattle.std.proofs.Common.{◌≡◌, ℕ, ◌∷◌, take, drop, arith, add-one, sym, subst}
use Rattle.sj_lines.specs.Lines.{full_lines}
use Rattle.sj_lines.proofs.LineLemmas.{first_line, one_full_line}
use Rattle.sj_lines.proofs.length.line_len.Goals as goal

pub returns-in-Some-clause-first : goal.returns-in-Some-clause-first
returns-in-Some-clause-first c =
    let b = c.args.bytes.now in
    let at = c.in-Some.at in
    let e = c.in-Some.ensures in
    subst (λ (n : ℕ). full_lines b ≡ take n b ∷ full_lines (drop n b)) (sym (add-one at)) (first_line at b (omega (arith, e.0.high)) (λ j h. e.0.before j (omega arith) h) e.1)

pub returns-in-None-clause-first : goal.returns-in-None-clause-first
returns-in-None-clause-first c = one_full_line c.args.bytes.now (omega arith) (λ j h. c.in-None.ensures j (omega arith) h)
