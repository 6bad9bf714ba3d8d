-- What single nodes mean.
use Rattle.std.proofs.Common.{◌≡◌, ℕ, ◌+◌, ◌-◌, ◌^◌, pos, negsuc, true, List, [], ◌∷◌, refl, Bor}
use Rattle.sj_text_core.specs.Tree.{i64, u64, i128, u128}
use Rattle.sj_text_core.specs.Nodes.{nothing, truth, number, string, array, object}
use Rattle.sj_text_core.specs.declared.static_node.StaticNode.TheVariants.{Null, Bool, I64, U64, I128, U128}
use Rattle.sj_tape.specs.Marks.{mark, marks, packed_mark, packed_marks}
use Rattle.sj_tape.specs.declared.node.Node.TheVariants.{Static, String, Array, Object}
use Rattle.sj_tape.specs.declared.packed.Packed.TheVariants as packed

-- the variant of a number is its carrier
mark-i64 : mark (Static (I64 (negsuc 6))) ≡ number (negsuc 6) i64
mark-i64 = refl

mark-u64 : mark (Static (U64 5)) ≡ number (pos 5) u64
mark-u64 = refl

mark-i128 : mark (Static (I128 (pos 5))) ≡ number (pos 5) i128
mark-i128 = refl

mark-u128 : mark (Static (U128 5)) ≡ number (pos 5) u128
mark-u128 = refl

-- a text is its bytes, wherever it lies
mark-text : (s : Bor (List ℕ)) → mark (String s) ≡ string s.now
mark-text s = refl

-- the number of children comes first, the number of nodes inside second
marks-row : marks (Array 2 3 ∷ Object 0 0 ∷ Static Null ∷ Static (Bool true) ∷ []) ≡ array 2 3 ∷ object 0 0 ∷ nothing ∷ truth true ∷ []
marks-row = refl

-- the bits of a number of 128, in two halves: below zero, and the first without a sign behind 2 ^ 64
packed-i128 : packed_mark (packed.I128 (2 ^ 64 - 2) 7) ≡ number (negsuc (2 ^ 65 - 8)) i128
packed-i128 = refl

packed-u128 : packed_mark (packed.U128 1 5) ≡ number (pos (2 ^ 64 + 5)) u128
packed-u128 = refl

packed-row : packed_marks (packed.Array 2 2 ∷ packed.Null ∷ packed.Bool true ∷ []) ≡ array 2 2 ∷ nothing ∷ truth true ∷ []
packed-row = refl
