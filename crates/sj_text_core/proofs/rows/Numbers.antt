-- Carriers at their limits, and hashes of texts.
use Rattle.std.proofs.Common.{◌≡◌, pos, negsuc, true, false, [], refl, codes, Some, None}
use Rattle.sj_text_core.specs.Tree.{u64, i64, u128, i128, int}
use Rattle.sj_text_core.specs.Grammar.{number_of, value_of}
use Rattle.sj_text_core.specs.Print.{recarry}
use Rattle.sj_text_core.specs.Reads.{as_signed, as_unsigned}
use Rattle.sj_text_core.specs.Hash.{hash}

-- 2^64-1, 2^64, -2^63 and -2^63-1, each from a carrier that its print is not read with
recarry-largest_u64 : recarry (int (pos 18446744073709551615) u128) ≡ int (pos 18446744073709551615) u64
recarry-largest_u64 = refl

recarry-past_u64 : recarry (int (pos 18446744073709551616) i128) ≡ int (pos 18446744073709551616) u128
recarry-past_u64 = refl

recarry-least_i64 : recarry (int (negsuc 9223372036854775807) i128) ≡ int (negsuc 9223372036854775807) i64
recarry-least_i64 = refl

recarry-below_i64 : recarry (int (negsuc 9223372036854775808) i128) ≡ int (negsuc 9223372036854775808) i128
recarry-below_i64 = refl

recarry-whole : recarry (int (pos 5) i64) ≡ int (pos 5) u64
recarry-whole = refl

-- the numbers that digits write, without and behind a `-`
number_of-largest_u64 : number_of false (value_of (codes "18446744073709551615")) ≡ Some (int (pos 18446744073709551615) u64)
number_of-largest_u64 = refl

number_of-past_u64 : number_of false (value_of (codes "18446744073709551616")) ≡ Some (int (pos 18446744073709551616) u128)
number_of-past_u64 = refl

number_of-largest_u128 : number_of false (value_of (codes "340282366920938463463374607431768211455")) ≡ Some (int (pos 340282366920938463463374607431768211455) u128)
number_of-largest_u128 = refl

number_of-past_u128 : number_of false (value_of (codes "340282366920938463463374607431768211456")) ≡ None
number_of-past_u128 = refl

number_of-least_i64 : number_of true (value_of (codes "9223372036854775808")) ≡ Some (int (negsuc 9223372036854775807) i64)
number_of-least_i64 = refl

number_of-below_i64 : number_of true (value_of (codes "9223372036854775809")) ≡ Some (int (negsuc 9223372036854775808) i128)
number_of-below_i64 = refl

number_of-least_i128 : number_of true (value_of (codes "170141183460469231731687303715884105728")) ≡ Some (int (negsuc 170141183460469231731687303715884105727) i128)
number_of-least_i128 = refl

number_of-below_i128 : number_of true (value_of (codes "170141183460469231731687303715884105729")) ≡ None
number_of-below_i128 = refl

-- -0 is a number behind a `-`
number_of-minus_zero : number_of true (value_of (codes "0")) ≡ Some (int (pos 0) i64)
number_of-minus_zero = refl

-- 255 fits eight bits without a sign, and no fewer than nine with one
as_unsigned-255 : as_unsigned 8 (int (pos 255) i128) ≡ Some 255
as_unsigned-255 = refl

as_unsigned-256 : as_unsigned 8 (int (pos 256) u64) ≡ None
as_unsigned-256 = refl

as_signed-255 : as_signed 8 (int (pos 255) u64) ≡ None
as_signed-255 = refl

as_signed-least : as_signed 8 (int (negsuc 127) i64) ≡ Some (negsuc 127)
as_signed-least = refl

as_signed-below : as_signed 8 (int (negsuc 128) i64) ≡ None
as_signed-below = refl

hash-nothing : hash [] ≡ 0
hash-nothing = refl

hash-a : hash (codes "a") ≡ 97
hash-a = refl

-- two texts of one hash
hash-Aa : hash (codes "Aa") ≡ 2112
hash-Aa = refl

hash-BB : hash (codes "BB") ≡ 2112
hash-BB = refl

hash-key : hash (codes "key") ≡ 106079
hash-key = refl

hash-k00 : hash (codes "k00") ≡ 104363
hash-k00 = refl

-- a hash past 2^64 is taken modulo that
hash-AaAaAaAaAaAa : hash (codes "AaAaAaAaAaAa") ≡ 1732858124334809472
hash-AaAaAaAaAaAa = refl

-- as large as 64 bits hold
hash-z14 : hash (codes "zzzzzzzzzzzzzz") ≡ 16079153662119467712
hash-z14 = refl
