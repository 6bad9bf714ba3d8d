-- What generators lay out.
use Rattle.std.proofs.Common.{◌≡◌, [], ◌∷◌, refl, codes, Some, None, arith}
use Rattle.sj_print.specs.Generators.{by_style, line, CanIndent}

chosen-compact : by_style None (codes ": ") (codes ":") ≡ codes ":"
chosen-compact = refl

chosen-pretty : by_style (Some 2) (codes ": ") (codes ":") ≡ codes ": "
chosen-pretty = refl

line-compact : line None 3 ≡ []
line-compact = refl

line-pretty : line (Some 2) 2 ≡ 10 ∷ 32 ∷ 32 ∷ 32 ∷ 32 ∷ []
line-pretty = refl

-- the last level that can be counted, and the one past it
can_indent-last : CanIndent None 18446744073709551614
can_indent-last = omega arith

not_can_indent-past : CanIndent None 18446744073709551615 → ⊥
not_can_indent-past h = absurd (omega (arith, h))

-- the same where a level has two spaces
can_indent-pretty : CanIndent (Some 2) 9223372036854775806
can_indent-pretty = (omega arith, omega arith)

not_can_indent-pretty : CanIndent (Some 2) 9223372036854775807 → ⊥
not_can_indent-pretty h = absurd (omega (arith, h.1))

-- and where it has none
can_indent-no_spaces : CanIndent (Some 0) 18446744073709551614
can_indent-no_spaces = (omega arith, omega arith)
