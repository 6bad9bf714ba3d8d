-- Nodes put at the end.
use Rattle.std.proofs.Common.{◌≡◌, List, [], ◌∷◌, ◌++◌}
use Rattle.std.proofs.lemmas.List.{map-append}
use Rattle.sj_tape.specs.Marks.{packed_mark, packed_marks}
use Rattle.sj_tape.specs.declared.packed.Packed.{Packed}

-- one node more
pub marks_push : (ns : List Packed) (n : Packed) → packed_marks (ns ++ n ∷ []) ≡ packed_marks ns ++ packed_mark n ∷ []
marks_push ns n = map-append packed_mark ns (n ∷ [])
