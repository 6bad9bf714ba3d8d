-- What private clauses alone cite beside Texts.
use Rattle.std.specs.Prelude.{◌≡◌, Bool, true, false, not, ◌&&◌, refl}
use mathlib.Core.Path.{sym}
use Rattle.std.proofs.Common.{true≢false}

pub not_and : (a b : Bool) → not a && b ≡ true → (a ≡ false) × (b ≡ true)
not_and false b e = (refl, e)
not_and true b e = absurd (true≢false (sym e))

pub not_and_of : (a b : Bool) → a ≡ false → b ≡ true → not a && b ≡ true
not_and_of a b p q = λ i. not (p i) && q i
