-- Numbers as digits write them.
use Rattle.std.proofs.Common.{◌≡◌, ◌≤◌, ◌<◌, ◌+◌, ◌-◌, ◌*◌, ◌^◌, ◌&&◌, ℕ, Bool, true, false, nat_lt, List, [], ◌∷◌, length, get_or, drop, fold, Some, None, if◌then◌else◌, refl, sym, ap, ◌∙◌, arith}
use Rattle.std.proofs.lemmas.List.{at_drop_more, at_drop_all}
use Rattle.std.specs.Char.{is_ascii_digit}
use Rattle.std.specs.List.{list_all}
use Rattle.std.proofs.lemmas.Bool.{lt-ltb, le-ltb}
use Rattle.sj_text_core.specs.Grammar.{value_of}

-- the number that more digits make of n
abbrev pub more : ℕ → List ℕ → ℕ
more n s = fold (λ n c. n * 10 + (c - 48)) n s

more_is_more : (n : ℕ) (s : List ℕ) → n ≤ more n s
more_is_more n [] = omega arith
more_is_more n (c ∷ s) = omega (arith, more_is_more (n * 10 + (c - 48)) s)

-- one digit of those to come
pub more_by_one : (s : List ℕ) (i n : ℕ) → i < length s → more n (drop i s) ≡ more (n * 10 + (get_or s i 0 - 48)) (drop (i + 1) s)
more_by_one s i n h = at_drop_more (more n) s i 0 h

none_by : (a : Bool) (n : ℕ) → nat_lt n (2 ^ 64) ≡ false → None ≡ (if a && nat_lt n (2 ^ 64) then Some n else None)
none_by true n e = ap (λ b. if b then Some n else None) (sym e)
none_by false n e = refl

-- a number that is past 64 bits stays so, whatever follows
pub past : (s : List ℕ) (i n : ℕ) → i < length s → more n (drop i s) ≡ value_of s → 2 ^ 64 ≤ n * 10 + (get_or s i 0 - 48)
    → None ≡ (if list_all is_ascii_digit s && nat_lt (value_of s) (2 ^ 64) then Some (value_of s) else None)
past s i n h e f =
    none_by (list_all is_ascii_digit s) (value_of s) (le-ltb (value_of s) (2 ^ 64) (omega (arith, f, e, more_by_one s i n h, more_is_more (n * 10 + (get_or s i 0 - 48)) (drop (i + 1) s))))

some_by : (a : Bool) (n m : ℕ) → a ≡ true → n ≡ m → n < 2 ^ 64 → Some n ≡ (if a && nat_lt m (2 ^ 64) then Some m else None)
some_by true n m e f h = ap Some f ∙ ap (λ b. if b then Some m else None) (sym (lt-ltb m (2 ^ 64) (omega (arith, f, h))))
some_by false n m e f h = cc

-- none are to come
pub all_read : (s : List ℕ) (i n : ℕ) → length s ≤ i → list_all is_ascii_digit (drop i s) ≡ list_all is_ascii_digit s → more n (drop i s) ≡ value_of s → n < 2 ^ 64
    → Some n ≡ (if list_all is_ascii_digit s && nat_lt (value_of s) (2 ^ 64) then Some (value_of s) else None)
all_read s i n h e f l =
    some_by (list_all is_ascii_digit s) n (value_of s) (sym e ∙ at_drop_all (list_all is_ascii_digit) s i h) (sym (at_drop_all (more n) s i h) ∙ f) l
