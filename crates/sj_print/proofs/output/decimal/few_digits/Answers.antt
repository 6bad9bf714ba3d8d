use Rattle.std.proofs.Common.{◌≡◌, ◌/◌, ◌<◌, ◌≤◌, length, arith}
use Rattle.std.specs.Fmt.{decimal}
use Rattle.itoa.proofs.Decimal.{length_one, length_two, length_pair}
use Rattle.sj_print.proofs.output.decimal.few_digits.Goals as goal

pub returns : goal.returns
returns c =
    let n = c.args.n in
    let one = length_one n in
    let two = length_two n in
    let three : 100 ≤ n → n < 1000 → length (decimal n) ≡ 3 = λ lo hi. omega (arith, length_pair n lo (omega arith), length_one (n / 100) (omega arith)) in
    let four : 1000 ≤ n → n < 10000 → length (decimal n) ≡ 4 = λ lo hi. omega (arith, length_pair n (omega arith) (omega arith), length_two (n / 100) (omega arith) (omega arith)) in
    grind (arith, one, two, three, four)
