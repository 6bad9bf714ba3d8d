-- What private clauses alone cite beside ScalarValues.
use Rattle.std.proofs.Common.{ℕ, ℤ, pos, negsuc, Bool, true, false, Option, Some, None, suc}
use Rattle.sj_text_core.specs.declared.static_node.StaticNode.{StaticNode}
use Rattle.sj_text_core.specs.declared.static_node.StaticNode.TheVariants.{Null, Bool as Truth, I64, U64, I128, U128}

-- the sign and the size of a number
abbrev pub sign_and_size : ℤ → Bool × ℕ
sign_and_size (pos n) = (false, n)
sign_and_size (negsuc n) = (true, suc n)

-- the number, where there is one
abbrev pub number_in : StaticNode → Option ℤ
number_in Null = None
number_in (Truth b) = None
number_in (I64 n) = Some n
number_in (U64 n) = Some (pos n)
number_in (I128 n) = Some n
number_in (U128 n) = Some (pos n)
