use Rattle.std.proofs.Common.{◌≡◌, get_or, take, length, refl, ap, ◌∙◌, arith}
use Rattle.std.proofs.lemmas.List.{take_all}
use Rattle.sj_text_core.specs.Grammar.{value_of}
use Rattle.sj_tape.proofs.Digits.{each_digit, part_digits, two_words, one_more_digit, value_many, checked}
use Rattle.sj_text_core.proofs.parse.Numbers.{too_large}
use Rattle.sj_tape.proofs.reader.number.wide_value.Goals as goal

pub returns-then-digits-gt39 : goal.returns-then-digits-gt39
returns-then-digits-gt39 c = value_many c.args.digits.now c.requires.digits c.requires.first c.if-digits-gt39.true

pub narrow_value-requires-clause-digits : goal.narrow_value-requires-clause-digits
narrow_value-requires-clause-digits c = part_digits c.args.digits.now 0 19 (each_digit c.args.digits.now c.requires.digits)

pub narrow_value-requires-2-clause-digits : goal.narrow_value-requires-2-clause-digits
narrow_value-requires-2-clause-digits c = part_digits c.args.digits.now 19 _ (each_digit c.args.digits.now c.requires.digits)

pub returns-then-digits-le38 : goal.returns-then-digits-le38
returns-then-digits-le38 c =
    let ds = c.args.digits.now in
    let m = c.min-middle.result in
    let all : m ≡ length ds = omega (arith, c.min-middle.ensures, c.if-digits-le38.true) in
    two_words ds m c.from.result c.from-3.result c.from-2.result (omega (arith, all, c.requires.many)) (omega (arith, all)) (c.from.ensures ∙ c.narrow_value.ensures) (c.from-2.ensures ∙ c.ten_to.ensures) (c.from-3.ensures ∙ c.narrow_value-2.ensures)
    ∙ ap (λ l. value_of l) (take_all m ds (omega (arith, all)))

pub returns-in-None : goal.returns-in-None
returns-in-None c =
    let ds = c.args.digits.now in
    let m = c.min-middle.result in
    let all : m ≡ 38 = omega (arith, c.min-middle.ensures, c.if-digits-le38.false) in
    let n = two_words ds m c.from.result c.from-3.result c.from-2.result (omega (arith, all)) (omega (arith, all, c.if-digits-le38.false)) (c.from.ensures ∙ c.narrow_value.ensures) (c.from-2.ensures ∙ c.ten_to.ensures) (c.from-3.ensures ∙ c.narrow_value-2.ensures)
    ∙ ap (λ k. value_of (take k ds)) all in
    too_large ds 38 _ (get_or ds 38 0) _ c.if-digits-le38.false n refl (let h = c.in-None.ensures in omega (arith, h))

pub returns-in-Some : goal.returns-in-Some
returns-in-Some c =
    let ds = c.args.digits.now in
    let m = c.min-middle.result in
    let all : m ≡ 38 = omega (arith, c.min-middle.ensures, c.if-digits-le38.false) in
    let n = two_words ds m c.from.result c.from-3.result c.from-2.result (omega (arith, all)) (omega (arith, all, c.if-digits-le38.false)) (c.from.ensures ∙ c.narrow_value.ensures) (c.from-2.ensures ∙ c.ten_to.ensures) (c.from-3.ensures ∙ c.narrow_value-2.ensures)
    ∙ ap (λ k. value_of (take k ds)) all in
    let v = one_more_digit ds 38 _ (omega (arith, c.if-digits-gt39.false, c.if-digits-le38.false)) n in
    let h = c.in-Some.ensures in
    checked c.checked_add.result _ _ (omega (arith, v, h, c.from-in-Some.ensures)) c.checked_add.ensures
