use Rattle.std.proofs.Common.{◌≡◌, ◌≢◌, ◌≤◌, ◌-◌, ◌^◌, get_or, lit<, sym, ap, ◌∙◌, arith, true≢false}
use Rattle.std.proofs.Math.Nat.{pow-le-pow_right}
use Rattle.std.specs.Prelude.{slice_range}
use Rattle.sj_text_core.specs.Grammar.{value_of, number_of}
use Rattle.sj_tape.proofs.Digits.{numeral_reads}
use Rattle.sj_tape.proofs.reader.number.short_numeral.Goals as goal
use Rattle.sj_tape.proofs.reader.number.short_numeral.Goals.{then-is_negative, else-is_negative, else-end-at-gt1-via-then-end-at-gt1+else-bytes-at-eq48, else-end-at-gt1-via-else-end-at-gt1}

pub small_number-requires : goal.small_number-requires
small_number-requires c = λ minus.
    let d = c.digits-end in
    let small : d.result.0 - c.args.at ≤ 18 = elim c.if-is_negative.branch [
      | then-is_negative w ↦ omega (arith, w.most-is, c.if-end-at-2.false)
      | else-is_negative w ↦ absurd (true≢false (sym minus ∙ w.if-is_negative.false))
    ] in
    let big : 10 ^ (d.result.0 - c.args.at) ≤ 10 ^ 18 = pow-le-pow_right {n = 10} (lit< tt) {i = d.result.0 - c.args.at} {j = 18} small in
    omega (arith, d.ensures.value, d.ensures.bound, big)

pub returns-clause-some : goal.returns-clause-some
returns-clause-some c =
    let d = c.digits-end in
    let b = c.args.bytes.now in
    let small : d.result.0 - c.args.at ≤ 19 = elim c.if-is_negative.branch [
      | then-is_negative w ↦ omega (arith, w.most-is, c.if-end-at-2.false)
      | else-is_negative w ↦ omega (arith, w.most-is, c.if-end-at-2.false)
    ] in
    let big : 10 ^ (d.result.0 - c.args.at) ≤ 10 ^ 19 = pow-le-pow_right {n = 10} (lit< tt) {i = d.result.0 - c.args.at} {j = 19} small in
    let is : value_of (slice_range b c.args.at d.result.0) ≡ d.result.1 = omega (arith, d.ensures.value, d.ensures.bound, big) in
    let plain : get_or b c.args.at 0 ≡ 48 → d.result.0 - c.args.at ≤ 1 = λ z. elim c.else-end-at-gt1.branch [
      | else-end-at-gt1-via-then-end-at-gt1+else-bytes-at-eq48 w ↦ absurd (w.if-bytes-at-eq48.false z)
      | else-end-at-gt1-via-else-end-at-gt1 w ↦ w.if-end-at-gt1.false
    ] in
    let some : d.result.0 - c.args.at ≢ 0 = omega (arith, c.if-end-at.false, d.ensures.low) in
    numeral_reads c.args.is_negative b c.args.at d.result.0 _ d.ensures.low d.ensures.count some plain (sym c.goes_on.ensures ∙ c.if-goes_on.false) (ap (λ n. number_of c.args.is_negative n) is ∙ c.small_number.ensures)
