-- Integer types by range, and kinds by name.
use Rattle.std.proofs.Common.{◌≡◌, pos, negsuc, true, false, [], ◌∷◌, refl, codes}
use Rattle.sj_text_core.specs.Tree.{i64, u64, i128, u128, null, boolean, int, text, list, obj, no_items, no_members, member}
use Rattle.sj_commands.specs.Commands.{signed, unsigned, read, kind, str, keys}
use Rattle.sj_run.specs.Answers.{fits_in}
use Rattle.sj_text_core.specs.declared.repeats.Repeats.TheVariants.{First}
use Rattle.sj_run.specs.Repeats.{replies_by}
use Rattle.sj_run.specs.Shown.{shown_all}

-- the last number in range and the first past it, at both ends
is_in-i8_last : fits_in (signed 8) (int (pos 127) u64) ≡ true
is_in-i8_last = refl

is_in-i8_past : fits_in (signed 8) (int (pos 128) u64) ≡ false
is_in-i8_past = refl

is_in-i8_first : fits_in (signed 8) (int (negsuc 127) i64) ≡ true
is_in-i8_first = refl

is_in-i8_before : fits_in (signed 8) (int (negsuc 128) i64) ≡ false
is_in-i8_before = refl

is_in-i16_last : fits_in (signed 16) (int (pos 32767) u64) ≡ true
is_in-i16_last = refl

is_in-i16_past : fits_in (signed 16) (int (pos 32768) u64) ≡ false
is_in-i16_past = refl

is_in-i16_first : fits_in (signed 16) (int (negsuc 32767) i64) ≡ true
is_in-i16_first = refl

is_in-i16_before : fits_in (signed 16) (int (negsuc 32768) i64) ≡ false
is_in-i16_before = refl

is_in-i32_last : fits_in (signed 32) (int (pos 2147483647) u64) ≡ true
is_in-i32_last = refl

is_in-i32_past : fits_in (signed 32) (int (pos 2147483648) u64) ≡ false
is_in-i32_past = refl

is_in-i32_first : fits_in (signed 32) (int (negsuc 2147483647) i64) ≡ true
is_in-i32_first = refl

is_in-i32_before : fits_in (signed 32) (int (negsuc 2147483648) i64) ≡ false
is_in-i32_before = refl

is_in-i64_last : fits_in (signed 64) (int (pos 9223372036854775807) u64) ≡ true
is_in-i64_last = refl

is_in-i64_past : fits_in (signed 64) (int (pos 9223372036854775808) u64) ≡ false
is_in-i64_past = refl

is_in-i64_first : fits_in (signed 64) (int (negsuc 9223372036854775807) i64) ≡ true
is_in-i64_first = refl

is_in-i64_before : fits_in (signed 64) (int (negsuc 9223372036854775808) i128) ≡ false
is_in-i64_before = refl

is_in-i128_last : fits_in (signed 128) (int (pos 170141183460469231731687303715884105727) u128) ≡ true
is_in-i128_last = refl

is_in-i128_past : fits_in (signed 128) (int (pos 170141183460469231731687303715884105728) u128) ≡ false
is_in-i128_past = refl

is_in-i128_first : fits_in (signed 128) (int (negsuc 170141183460469231731687303715884105727) i128) ≡ true
is_in-i128_first = refl

is_in-u8_last : fits_in (unsigned 8) (int (pos 255) u64) ≡ true
is_in-u8_last = refl

is_in-u8_past : fits_in (unsigned 8) (int (pos 256) u64) ≡ false
is_in-u8_past = refl

is_in-u8_below : fits_in (unsigned 8) (int (negsuc 0) i64) ≡ false
is_in-u8_below = refl

is_in-u16_last : fits_in (unsigned 16) (int (pos 65535) u64) ≡ true
is_in-u16_last = refl

is_in-u16_past : fits_in (unsigned 16) (int (pos 65536) u64) ≡ false
is_in-u16_past = refl

is_in-u16_below : fits_in (unsigned 16) (int (negsuc 0) i64) ≡ false
is_in-u16_below = refl

is_in-u32_last : fits_in (unsigned 32) (int (pos 4294967295) u64) ≡ true
is_in-u32_last = refl

is_in-u32_past : fits_in (unsigned 32) (int (pos 4294967296) u64) ≡ false
is_in-u32_past = refl

is_in-u32_below : fits_in (unsigned 32) (int (negsuc 0) i64) ≡ false
is_in-u32_below = refl

is_in-u64_last : fits_in (unsigned 64) (int (pos 18446744073709551615) u64) ≡ true
is_in-u64_last = refl

is_in-u64_past : fits_in (unsigned 64) (int (pos 18446744073709551616) u128) ≡ false
is_in-u64_past = refl

is_in-u64_below : fits_in (unsigned 64) (int (negsuc 0) i64) ≡ false
is_in-u64_below = refl

is_in-u128_last : fits_in (unsigned 128) (int (pos 340282366920938463463374607431768211455) u128) ≡ true
is_in-u128_last = refl

is_in-u128_below : fits_in (unsigned 128) (int (negsuc 0) i64) ≡ false
is_in-u128_below = refl

-- whatever carries the number, and no other kind
is_in-wide : fits_in (unsigned 8) (int (pos 255) u128) ≡ true
is_in-wide = refl

is_in-text : fits_in (unsigned 8) (text (codes "1")) ≡ false
is_in-text = refl

-- each kind's name
shown-null : shown_all (replies_by (First, null) (read [] kind ∷ [])) ≡ codes "Null\n"
shown-null = refl

shown-truth : shown_all (replies_by (First, (boolean true)) (read [] kind ∷ [])) ≡ codes "Bool\n"
shown-truth = refl

shown-i64 : shown_all (replies_by (First, (int (pos 0) i64)) (read [] kind ∷ [])) ≡ codes "I64\n"
shown-i64 = refl

shown-u64 : shown_all (replies_by (First, (int (pos 0) u64)) (read [] kind ∷ [])) ≡ codes "U64\n"
shown-u64 = refl

shown-i128 : shown_all (replies_by (First, (int (pos 0) i128)) (read [] kind ∷ [])) ≡ codes "I128\n"
shown-i128 = refl

shown-u128 : shown_all (replies_by (First, (int (pos 0) u128)) (read [] kind ∷ [])) ≡ codes "U128\n"
shown-u128 = refl

shown-text : shown_all (replies_by (First, (text [])) (read [] kind ∷ [])) ≡ codes "String\n"
shown-text = refl

shown-list : shown_all (replies_by (First, (list no_items)) (read [] kind ∷ [])) ≡ codes "Array\n"
shown-list = refl

shown-object : shown_all (replies_by (First, (obj no_members)) (read [] kind ∷ [])) ≡ codes "Object\n"
shown-object = refl

-- the empty text and the empty key
shown-no_text : shown_all (replies_by (First, (text [])) (read [] str ∷ [])) ≡ codes "\"\"\n"
shown-no_text = refl

shown-no_key : shown_all (replies_by (First, (obj (member [] null no_members))) (read [] keys ∷ [])) ≡ codes "[\"\"]\n"
shown-no_key = refl

shown-no_keys : shown_all (replies_by (First, (obj no_members)) (read [] keys ∷ [])) ≡ codes "[]\n"
shown-no_keys = refl
