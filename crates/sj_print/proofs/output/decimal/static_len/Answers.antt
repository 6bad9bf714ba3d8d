use Rattle.std.proofs.Common.{rules, IsUtf8, refl, sym, subst}
use Rattle.std.specs.Fmt.{decimal}
use Rattle.sj_text_core.specs.Print.{compact}
use Rattle.sj_text_core.specs.Scalars.{static_tree}
use Rattle.sj_print.proofs.Utf8.{IsUtf8-are_ascii, IsUtf8-boolean, IsUtf8-signed}
use Rattle.sj_print.proofs.output.decimal.static_len.Goals as goal

pub returns-in-Null-clause-utf8 : goal.returns-in-Null-clause-utf8
returns-in-Null-clause-utf8 c = subst (λ s. IsUtf8 (compact (static_tree s))) (sym c.in-Null.is) (IsUtf8-are_ascii _ refl)

pub returns-in-Bool-true-clause-utf8 : goal.returns-in-Bool-true-clause-utf8
returns-in-Bool-true-clause-utf8 c = subst (λ s. IsUtf8 (compact (static_tree s))) (sym c.in-Bool-true.is) (IsUtf8-boolean c.in-Bool-true.field-0)

pub returns-in-Bool-false-clause-utf8 : goal.returns-in-Bool-false-clause-utf8
returns-in-Bool-false-clause-utf8 c = subst (λ s. IsUtf8 (compact (static_tree s))) (sym c.in-Bool-false.is) (IsUtf8-boolean c.in-Bool-false.field-0)

pub returns-in-I64-clause-utf8 : goal.returns-in-I64-clause-utf8
returns-in-I64-clause-utf8 c =
    subst (λ s. IsUtf8 (compact (static_tree s))) (sym c.in-I64.is)
    (IsUtf8-signed c.in-I64.n (subst (λ k. IsUtf8 (decimal k)) (search rules) c.digits.ensures.utf8))

pub returns-in-I64-2-clause-utf8 : goal.returns-in-I64-2-clause-utf8
returns-in-I64-2-clause-utf8 c =
    subst (λ s. IsUtf8 (compact (static_tree s))) (sym c.in-I64-2.is)
    (IsUtf8-signed c.in-I64-2.n (subst (λ k. IsUtf8 (decimal k)) (search rules) c.digits-in-I64-2.ensures.utf8))

pub returns-in-I128-clause-utf8 : goal.returns-in-I128-clause-utf8
returns-in-I128-clause-utf8 c =
    subst (λ s. IsUtf8 (compact (static_tree s))) (sym c.in-I128.is)
    (IsUtf8-signed c.in-I128.n (subst (λ k. IsUtf8 (decimal k)) (search rules) c.wide_digits.ensures.utf8))

pub returns-in-I128-2-clause-utf8 : goal.returns-in-I128-2-clause-utf8
returns-in-I128-2-clause-utf8 c =
    subst (λ s. IsUtf8 (compact (static_tree s))) (sym c.in-I128-2.is)
    (IsUtf8-signed c.in-I128-2.n (subst (λ k. IsUtf8 (decimal k)) (search rules) c.wide_digits-in-I128-2.ensures.utf8))

pub returns-in-U64-clause-utf8 : goal.returns-in-U64-clause-utf8
returns-in-U64-clause-utf8 c = subst (λ s. IsUtf8 (compact (static_tree s))) (sym c.in-U64.is) c.digits-in-U64.ensures.utf8

pub returns-in-U128-clause-utf8 : goal.returns-in-U128-clause-utf8
returns-in-U128-clause-utf8 c = subst (λ s. IsUtf8 (compact (static_tree s))) (sym c.in-U128.is) c.wide_digits-in-U128.ensures.utf8
