use Rattle.std.proofs.Common.{◌≡◌, ◌<◌, ℕ, List, length, true, sym, ap, ◌∙◌, arith}
use Rattle.std.proofs.lemmas.Str.{encode_ascii}
use Rattle.std.proofs.lemmas.Bool.Decides.{nat_tests}
use Rattle.std.specs.Char.{is_ascii}
use Rattle.sj_tape.proofs.Decode.{set_is, written}
use Rattle.sj_tape.proofs.reader.text.put.Goals as goal

low : (n : ℕ) → is_ascii n ≡ true → n < 128
low n h = grind (arith, nat_tests)

pub returns-then-is_ascii-clause-new : goal.returns-then-is_ascii-clause-new
returns-then-is_ascii-clause-new c =
    let e = encode_ascii c.args.character (low _ (sym c.is_ascii.ensures ∙ c.if-is_ascii.true)) in
    set_is c.args.bytes.now c.args.to c.args.character (omega (arith, c.requires, ap (λ (l : List ℕ). length l) e)) ∙ ap (λ f. written c.args.bytes.now c.args.to f) (sym e)
