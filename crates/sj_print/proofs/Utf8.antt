-- What is printed is UTF-8.
use Rattle.std.proofs.Common.{◌≡◌, ℕ, zero, suc, ◌<◌, ◌≤◌, Bool, true, false, cond, ◌&&◌, nat_lt, List, [], ◌∷◌, ◌++◌, Result, Ok, Err, OnOk, OnErr, length, get_or, replicate, flat_map, IsUtf8, ℤ, pos, negsuc, unsigned_abs, inl, inr, refl, sym, subst, arith, append-nil, ltb-true}
use Rattle.std.proofs.lemmas.Bool.{and_parts, cases_lt, cases_eq}
use Rattle.std.proofs.lemmas.Str.{IsUtf8-append, IsUtf8-nil, IsUtf8-encode, encode_ascii, inside_one}
use Rattle.std.specs.Fmt.{decimal, signed_decimal}
use lib.Utf8.{scalar, scalars, encode, encodes}
use Rattle.sj_text_core.specs.Tree.{boolean}
use Rattle.sj_text_core.specs.Print.{escaped, quoted, compact}
use Rattle.sj_text_core.proofs.Escapes.{escaped-append, escaped_high}
use Rattle.sj_text_core.proofs.Proper.{ascii}

abbrev pub are_ascii : List ℕ → Bool
are_ascii [] = true
are_ascii (x ∷ xs) = nat_lt x 128 && are_ascii xs

pub IsUtf8-are_ascii : (xs : List ℕ) → are_ascii xs ≡ true → IsUtf8 xs
IsUtf8-are_ascii [] e = IsUtf8-nil
IsUtf8-are_ascii (x ∷ xs) e = let p = and_parts _ _ e in ascii x xs (ltb-true _ _ p.0) (IsUtf8-are_ascii xs p.1)

-- the escapes of the bytes below n are ASCII
abbrev escapes_below : ℕ → Bool
escapes_below zero = true
escapes_below (suc n) = are_ascii (escaped n) && escapes_below n

escape_below : (n : ℕ) → escapes_below n ≡ true → (x : ℕ) → x < n → are_ascii (escaped x) ≡ true
escape_below zero e x h = absurd (omega arith)
escape_below (suc n) e x h =
    let p = and_parts _ _ e in
    elim (cases_eq x n) [ inl same ↦ rw same p.0 | inr other ↦ escape_below n p.1 x (omega arith) ]

all_ascii : escapes_below 128 ≡ true
all_ascii = refl

one_char : (c : ℕ) → scalar c ≡ true → IsUtf8 (flat_map escaped (encode c))
one_char c ok = elim (cases_lt c 128) [
  | inl small ↦ rw (encode_ascii c small, append-nil) (IsUtf8-are_ascii _ (escape_below 128 all_ascii c small))
  | inr big ↦
      let high : (k : ℕ) → k < length (encode c) → 128 ≤ get_or (encode c) k 0 = λ k below. elim (cases_lt (get_or (encode c) k 0) 128) [
        | inl low ↦ absurd (omega (arith, inside_one c [] (encode c) k (sym (append-nil _)) below low))
        | inr h ↦ h
      ] in
      subst IsUtf8 (sym (escaped_high (encode c) high)) (IsUtf8-encode c ok)
]

all_chars : (cs : List ℕ) → scalars cs ≡ true → IsUtf8 (flat_map escaped (encodes cs))
all_chars [] e = IsUtf8-nil
all_chars (c ∷ cs) e =
    let p = and_parts _ _ e in
    subst IsUtf8 (sym (escaped-append (encode c) (encodes cs))) (IsUtf8-append _ _ (one_char c p.0) (all_chars cs p.1))

-- the escapes of a text are a text
pub IsUtf8-escaped : (s : List ℕ) → IsUtf8 s → IsUtf8 (flat_map escaped s)
IsUtf8-escaped s u = subst (λ l. IsUtf8 (flat_map escaped l)) u.1.1 (all_chars u.0 u.1.0)

-- a text between its quotes is a text
pub IsUtf8-quoted : (s : List ℕ) → IsUtf8 s → IsUtf8 (quoted s)
IsUtf8-quoted s u = ascii 34 _ (omega arith) (IsUtf8-append _ _ (IsUtf8-escaped s u) (IsUtf8-are_ascii (34 ∷ []) refl))

-- a number is a text as its digits are
pub IsUtf8-signed : (z : ℤ) → IsUtf8 (decimal (unsigned_abs z)) → IsUtf8 (signed_decimal z)
IsUtf8-signed (pos n) u = u
IsUtf8-signed (negsuc n) u = ascii 45 _ (omega arith) u

pub IsUtf8-boolean : (b : Bool) → IsUtf8 (compact (boolean b))
IsUtf8-boolean true = IsUtf8-are_ascii _ refl
IsUtf8-boolean false = IsUtf8-are_ascii _ refl

spaces_utf8 : (n : ℕ) → IsUtf8 (replicate n 32)
spaces_utf8 zero = IsUtf8-nil
spaces_utf8 (suc n) = ascii 32 _ (omega arith) (spaces_utf8 n)

-- a line feed and spaces are a text
pub IsUtf8-line : (n : ℕ) → IsUtf8 (10 ∷ replicate n 32)
IsUtf8-line n = ascii 10 _ (omega arith) (spaces_utf8 n)

-- a text stays one where a text is put behind it, or nothing
pub IsUtf8-written : {T E : Type 0} (r : Result T E) (old part new : List ℕ) → OnOk r (new ≡ old ++ part) → OnErr r (new ≡ old) → IsUtf8 old → IsUtf8 part → IsUtf8 new
IsUtf8-written (Ok x) old part new ok err u v = subst IsUtf8 (sym ok) (IsUtf8-append old part u v)
IsUtf8-written (Err e) old part new ok err u v = subst IsUtf8 (sym err) u

pub IsUtf8-grown : (done : Bool) (old part new : List ℕ) → new ≡ cond done (old ++ part) old → IsUtf8 old → IsUtf8 part → IsUtf8 new
IsUtf8-grown true old part new e u v = subst IsUtf8 (sym e) (IsUtf8-append old part u v)
IsUtf8-grown false old part new e u v = subst IsUtf8 (sym e) u
