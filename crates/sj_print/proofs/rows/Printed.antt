-- How long the compact prints of single nodes and of some are.
use Rattle.std.proofs.Common.{◌≡◌, ℤ, true, false, [], ◌∷◌, length, refl, codes}
use Rattle.std.specs.Fmt.{signed_decimal}
use Rattle.sj_text_core.specs.Tree.{i64}
use Rattle.sj_text_core.specs.Nodes.{nothing, truth, number, string, array, object}
use Rattle.sj_print.specs.Printed.{frame_len}
use Rattle.sj_print.specs.inner.Printed.{mark_len, marks_len}

-- no comma in an empty container, and none in one with one part
frame-none : frame_len 0 ≡ 2
frame-none = refl

frame-one : frame_len 1 ≡ 2
frame-one = refl

frame-three : frame_len 3 ≡ 4
frame-three = refl

mark-nothing : mark_len nothing ≡ 4
mark-nothing = refl

mark-truth : mark_len (truth false) ≡ 5
mark-truth = refl

-- the digits and the sign, whatever the carrier
mark-number : (n : ℤ) → mark_len (number n i64) ≡ length (signed_decimal n)
mark-number n = refl

-- the quotes, and an escape of two bytes
mark-string : mark_len (string (codes "a\"b")) ≡ 6
mark-string = refl

mark-array : mark_len (array 3 7) ≡ 4
mark-array = refl

-- a colon for each member
mark-object : mark_len (object 3 7) ≡ 7
mark-object = refl

-- {"a":["",true],"b":null}
marks-row : marks_len (object 2 6 ∷ string (codes "a") ∷ array 2 2 ∷ string [] ∷ truth true ∷ string (codes "b") ∷ nothing ∷ []) ≡ length (codes "{\"a\":[\"\",true],\"b\":null}")
marks-row = refl
