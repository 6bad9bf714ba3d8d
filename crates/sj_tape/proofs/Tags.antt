-- Tags of texts.
use Rattle.std.proofs.Common.{◌≡◌, ℕ, ◌-◌, ◌/◌, ◌<◌, ◌≤◌, ◌%◌, ◌^◌, Bool, true, false, if◌then◌else◌, nat_lt, List, length, sym, ap, ◌∙◌, arith}
use Rattle.std.proofs.lemmas.Bool.Decides.{nat_tests}
use Rattle.sj_text_core.specs.Hash.{hash}
use Rattle.sj_tape.specs.inner.Tags.{tag, word, half_word, mixed}

abbrev tag_by : List ℕ → Bool → Bool → ℕ
tag_by s few some = if few then hash s % 2 ^ 16 else if some then mixed (half_word 0 s) 0 (half_word (length s - 4) s) else mixed (word 0 s) (word ((length s - 8) / 2) s) (word (length s - 8) s)

pub tag_few : (s : List ℕ) → length s < 4 → hash s % 2 ^ 16 ≡ tag s
unfolding tag
tag_few s l = let few : nat_lt (length s) 4 ≡ true = grind (arith, nat_tests) in ap (λ b. tag_by s b (nat_lt (length s) 8)) (sym few)

pub tag_halves : (s : List ℕ) (a c : ℕ) → 4 ≤ length s → length s < 8 → a ≡ half_word 0 s → c ≡ half_word (length s - 4) s → mixed a 0 c ≡ tag s
unfolding tag
tag_halves s a c h l e f =
    let many : nat_lt (length s) 4 ≡ false = grind (arith, nat_tests) in
    let some : nat_lt (length s) 8 ≡ true = grind (arith, nat_tests) in
    ap (λ a. mixed a 0 c) e ∙ ap (mixed (half_word 0 s) 0) f ∙ ap (tag_by s false) (sym some) ∙ ap (λ b. tag_by s b (nat_lt (length s) 8)) (sym many)

pub tag_words : (s : List ℕ) (a b c : ℕ) → 8 ≤ length s → a ≡ word 0 s → b ≡ word ((length s - 8) / 2) s → c ≡ word (length s - 8) s → mixed a b c ≡ tag s
unfolding tag
tag_words s a b c l e f g =
    let many : nat_lt (length s) 4 ≡ false = grind (arith, nat_tests) in
    let more : nat_lt (length s) 8 ≡ false = grind (arith, nat_tests) in
    ap (λ a. mixed a b c) e ∙ ap (λ b. mixed (word 0 s) b c) f ∙ ap (mixed (word 0 s) (word ((length s - 8) / 2) s)) g ∙ ap (tag_by s false) (sym more) ∙ ap (λ b. tag_by s b (nat_lt (length s) 8)) (sym many)
