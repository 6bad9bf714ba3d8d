use Rattle.std.proofs.Common.{◌≡◌, ◌≢◌, ◌≤◌, ◌-◌, ◌^◌, get_or, lit<, sym, ap, ◌∙◌, arith}
use Rattle.std.proofs.Math.Nat.{pow-le-pow_right}
use Rattle.std.specs.Prelude.{slice_range}
use Rattle.sj_text_core.specs.Grammar.{value_of, number_of}
use Rattle.sj_tape.proofs.Digits.{numeral_reads}
use Rattle.sj_tape.proofs.reader.number.numeral.Goals as goal
use Rattle.sj_tape.proofs.reader.number.numeral.Goals.{else-bytes-at-eq48-via-then-bytes-at-eq48+else-end-at-gt1, else-bytes-at-eq48-via-else-bytes-at-eq48}

pub small_number-requires : goal.small_number-requires
small_number-requires c = λ _.
    let d = c.digits-end in
    let big : 10 ^ (d.result.0 - c.args.at) ≤ 10 ^ 18 = pow-le-pow_right {n = 10} (lit< tt) {i = d.result.0 - c.args.at} {j = 18} c.if-end-at-le18.true in
    omega (arith, d.ensures.value, d.ensures.bound, big)

pub returns-then-end-at-le18-clause-ok : goal.returns-then-end-at-le18-clause-ok
returns-then-end-at-le18-clause-ok c =
    let d = c.digits-end in
    let b = c.args.bytes.now in
    let big : 10 ^ (d.result.0 - c.args.at) ≤ 10 ^ 18 = pow-le-pow_right {n = 10} (lit< tt) {i = d.result.0 - c.args.at} {j = 18} c.if-end-at-le18.true in
    let is : value_of (slice_range b c.args.at d.result.0) ≡ d.result.1 = omega (arith, d.ensures.value, d.ensures.bound, big) in
    let plain : get_or b c.args.at 0 ≡ 48 → d.result.0 - c.args.at ≤ 1 = λ z. elim c.else-bytes-at-eq48.branch [
      | else-bytes-at-eq48-via-then-bytes-at-eq48+else-end-at-gt1 w ↦ w.if-end-at-gt1.false
      | else-bytes-at-eq48-via-else-bytes-at-eq48 w ↦ absurd (w.if-bytes-at-eq48.false z)
    ] in
    let some : d.result.0 - c.args.at ≢ 0 = omega (arith, c.if-end-at.false, d.ensures.low) in
    numeral_reads c.args.is_negative b c.args.at d.result.0 _ d.ensures.low d.ensures.count some plain (sym c.goes_on.ensures ∙ c.if-goes_on.false) (ap (λ n. number_of c.args.is_negative n) is ∙ c.small_number.ensures)
