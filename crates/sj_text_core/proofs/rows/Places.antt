-- Which tokens name positions on arrays (RFC 6901, section 4).
use Rattle.std.proofs.Common.{◌≡◌, Some, None, refl, codes}
use Rattle.sj_text_core.specs.Places.{position_of}

zero-place : position_of (codes "0") ≡ Some 0
zero-place = refl

one : position_of (codes "1") ≡ Some 1
one = refl

many : position_of (codes "1024") ≡ Some 1024
many = refl

greatest : position_of (codes "18446744073709551615") ≡ Some 18446744073709551615
greatest = refl

past-greatest : position_of (codes "18446744073709551616") ≡ None
past-greatest = refl

leading-zero : position_of (codes "00") ≡ None
leading-zero = refl

leading-zeros : position_of (codes "01") ≡ None
leading-zeros = refl

past-the-end : position_of (codes "-") ≡ None
past-the-end = refl

empty : position_of (codes "") ≡ None
empty = refl

plus : position_of (codes "+1") ≡ None
plus = refl

minus : position_of (codes "-1") ≡ None
minus = refl

letter : position_of (codes "1a") ≡ None
letter = refl

space : position_of (codes "1 ") ≡ None
space = refl
