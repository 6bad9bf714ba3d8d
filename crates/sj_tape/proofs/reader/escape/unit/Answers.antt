use Rattle.std.proofs.Common.{inl, inr}
use Rattle.sj_tape.proofs.Units.{unit_short, unit_no, unit_is}
use Rattle.sj_tape.proofs.reader.escape.unit.Goals as goal

pub returns-then-bytes-at-lt4-clause-value : goal.returns-then-bytes-at-lt4-clause-value
returns-then-bytes-at-lt4-clause-value c = unit_short c.args.bytes.now c.args.at c.if-bytes-at-lt4.true

pub returns-then-first-ge16-clause-value : goal.returns-then-first-ge16-clause-value
returns-then-first-ge16-clause-value c = unit_no c.args.bytes.now c.args.at _ _ _ _ c.digit-first.ensures c.digit-second.ensures c.digit-third.ensures c.digit-fourth.ensures (inl c.if-first-ge16.true)

pub returns-then-second-ge16-clause-value : goal.returns-then-second-ge16-clause-value
returns-then-second-ge16-clause-value c = unit_no c.args.bytes.now c.args.at _ _ _ _ c.digit-first.ensures c.digit-second.ensures c.digit-third.ensures c.digit-fourth.ensures (inr (inl c.if-second-ge16.true))

pub returns-then-third-ge16-clause-value : goal.returns-then-third-ge16-clause-value
returns-then-third-ge16-clause-value c = unit_no c.args.bytes.now c.args.at _ _ _ _ c.digit-first.ensures c.digit-second.ensures c.digit-third.ensures c.digit-fourth.ensures (inr (inr (inl c.if-third-ge16.true)))

pub returns-then-fourth-ge16-clause-value : goal.returns-then-fourth-ge16-clause-value
returns-then-fourth-ge16-clause-value c = unit_no c.args.bytes.now c.args.at _ _ _ _ c.digit-first.ensures c.digit-second.ensures c.digit-third.ensures c.digit-fourth.ensures (inr (inr (inr c.if-fourth-ge16.true)))

pub returns-clause-value : goal.returns-clause-value
returns-clause-value c = unit_is c.args.bytes.now c.args.at _ _ _ _ c.digit-first.ensures c.digit-second.ensures c.digit-third.ensures c.digit-fourth.ensures c.if-first-ge16.false c.if-second-ge16.false c.if-third-ge16.false c.if-fourth-ge16.false
