-- Trees at the limits of depth and of carriers, and just past them.
use Rattle.std.proofs.Common.{◌≡◌, ℕ, zero, suc, max, pos, negsuc, refl, ap, ◌∙◌, arith}
use Rattle.sj_text_core.specs.Tree.{i64, u64, i128, u128, Tree, int, list, no_items, item, depth, IsWithin, IsProper}

-- n lists inside one another
abbrev nest : ℕ → Tree
nest zero = list no_items
nest (suc n) = list (item (nest n) no_items)

max-zero : (n : ℕ) → max n 0 ≡ n
max-zero n = omega arith

depth-nest : (n : ℕ) → depth (nest n) ≡ suc n
depth-nest zero = refl
depth-nest (suc n) = ap (λ d. suc d) (max-zero (depth (nest n)) ∙ depth-nest n)

within-1024 : IsWithin (nest 1023)
within-1024 = omega (arith, depth-nest 1023)

not_within-1025 : IsWithin (nest 1024) → ⊥
not_within-1025 h = absurd (omega (arith, h, depth-nest 1024))

proper-i64 : IsProper (int (negsuc 9223372036854775807) i64) × IsProper (int (pos 9223372036854775807) i64)
proper-i64 = ((record { le = tt }, record { lt = tt }), (record { le = tt }, record { lt = tt }))

proper-u64 : IsProper (int (pos 0) u64) × IsProper (int (pos 18446744073709551615) u64)
proper-u64 = ((record { le = tt }, record { lt = tt }), (record { le = tt }, record { lt = tt }))

proper-i128 : IsProper (int (negsuc 170141183460469231731687303715884105727) i128) × IsProper (int (pos 170141183460469231731687303715884105727) i128)
proper-i128 = ((record { le = tt }, record { lt = tt }), (record { le = tt }, record { lt = tt }))

proper-u128 : IsProper (int (pos 0) u128) × IsProper (int (pos 340282366920938463463374607431768211455) u128)
proper-u128 = ((record { le = tt }, record { lt = tt }), (record { le = tt }, record { lt = tt }))

not_proper-below_i64 : IsProper (int (negsuc 9223372036854775808) i64) → ⊥
not_proper-below_i64 h = h.0.le

not_proper-past_i64 : IsProper (int (pos 9223372036854775808) i64) → ⊥
not_proper-past_i64 h = h.1.lt

not_proper-below_u64 : IsProper (int (negsuc 0) u64) → ⊥
not_proper-below_u64 h = h.0.le

not_proper-past_u64 : IsProper (int (pos 18446744073709551616) u64) → ⊥
not_proper-past_u64 h = h.1.lt

not_proper-below_i128 : IsProper (int (negsuc 170141183460469231731687303715884105728) i128) → ⊥
not_proper-below_i128 h = h.0.le

not_proper-past_i128 : IsProper (int (pos 170141183460469231731687303715884105728) i128) → ⊥
not_proper-past_i128 h = h.1.lt

not_proper-below_u128 : IsProper (int (negsuc 0) u128) → ⊥
not_proper-below_u128 h = h.0.le

not_proper-past_u128 : IsProper (int (pos 340282366920938463463374607431768211456) u128) → ⊥
not_proper-past_u128 h = h.1.lt
