-- The value of a scalar, whatever carries it.
use Rattle.std.proofs.Common.{◌≡◌, ℤ, pos, Bool, true, false, refl, ap}
use Rattle.std.specs.Bool.{Decides, beq}
use Rattle.std.specs.Ordering.{int_eq}
use Rattle.std.specs.Cmp.{IsEquivalence, decided, booleans_Decides, signed_Decides}
use Rattle.sj_text_core.specs.declared.static_node.StaticNode.{StaticNode}
use Rattle.sj_text_core.specs.declared.static_node.StaticNode.TheVariants.{Null, Bool as Truth, I64, U64, I128, U128}

-- a null, a truth value or a whole number
pub data ScalarValue : Type 0 where
  nothing : ScalarValue
  truth : Bool → ScalarValue
  whole : ℤ → ScalarValue

abbrev pub scalar_value : StaticNode → ScalarValue
scalar_value Null = nothing
scalar_value (Truth b) = truth b
scalar_value (I64 n) = whole n
scalar_value (U64 n) = whole (pos n)
scalar_value (I128 n) = whole n
scalar_value (U128 n) = whole (pos n)

-- whether two values are one
abbrev pub value_eq : ScalarValue → ScalarValue → Bool
value_eq nothing nothing = true
value_eq (truth a) (truth b) = beq a b
value_eq (whole n) (whole m) = int_eq n m
value_eq _ _ = false

pub value_eq-decides : (v w : ScalarValue) → Decides (value_eq v w) (v ≡ w)
value_eq-decides nothing nothing = (λ e. refl, λ e. refl)
value_eq-decides (truth a) (truth b) = (λ e. ap truth ((booleans_Decides a b).0 e), λ e. (booleans_Decides a b).1 (cc))
value_eq-decides (whole n) (whole m) = (λ e. ap whole ((signed_Decides n m).0 e), λ e. (signed_Decides n m).1 (cc))
value_eq-decides _ _ = (λ e. cc, λ e. cc)

pub value_eq-equivalence : IsEquivalence value_eq
value_eq-equivalence = decided value_eq value_eq-decides
