use Rattle.std.proofs.Common.{ap, ◌∙◌}
use Rattle.sj_text_core.specs.Grammar.{number_of}
use Rattle.sj_tape.proofs.Digits.{each_digit, value_few, value_twenty}
use Rattle.sj_tape.proofs.reader.number.wide_number.Goals as goal

pub returns-then-digits-le19 : goal.returns-then-digits-le19
returns-then-digits-le19 c =
    let ds = c.args.digits.now in
    c.in_carrier.ensures ∙ ap (λ n. number_of c.args.is_negative n) (c.from.ensures ∙ value_few ds c.args.low (each_digit ds c.requires.digits) c.if-digits-le19.true c.requires.low)

pub returns-then-low-ge10000000000000000000 : goal.returns-then-low-ge10000000000000000000
returns-then-low-ge10000000000000000000 c =
    let ds = c.args.digits.now in
    c.in_carrier-then-low-ge10000000000000000000.ensures
    ∙ ap (λ n. number_of c.args.is_negative n) (c.from-then-low-ge10000000000000000000.ensures
    ∙ value_twenty ds c.args.low (each_digit ds c.requires.digits) c.if-digits-eq20.true c.if-digits-eq49.true c.if-low-ge10000000000000000000.true c.requires.low)
