-- Texts with escapes: how they are read, step by step.
use Rattle.std.proofs.Common.{◌≡◌, ◌≢◌, ◌⊎◌, ℕ, zero, suc, ◌+◌, ◌-◌, ◌*◌, ◌/◌, ◌%◌, ◌<◌, ◌≤◌, Bool, true, false, cond, List, [], ◌∷◌, ◌++◌, length, take, drop, get_or, option_map, option_and_then, Option, Some, None, refl, sym, ap, subst, ◌∙◌, arith, append_assoc, inl, inr, ⊎_elim, ◌==◌, if◌then◌else◌, nat_lt, nat_le, ◌&&◌, eqb-true}
use Rattle.std.specs.List.{AllByRecursion}
use Rattle.std.specs.Char.{digit_value, encode_utf8, IsScalar}
use Rattle.std.specs.Char.Utf16.{surrogate_pair_char}
use Rattle.std.proofs.lemmas.Bool.Decides.{nat_tests, eqb_tells}
use Rattle.std.proofs.lemmas.Option.{none-some, option_and_then_some, cond_some, some_pair_parts}
use Rattle.std.proofs.lemmas.List.{take-append-drop, drop-drop, length-drop, length-take-le, get_or-drop}
use Rattle.std.proofs.lemmas.Bool.{and_parts, ltb-true, ltb-false}
use Rattle.std.proofs.lemmas.Str.{encode_ascii, length-encode}
use Rattle.sj_text_core.proofs.Characters.{hex_ascii, short_ascii, short_scalar}
use Rattle.sj_text_core.specs.Grammar.{IsUnit, IsItem, short_escape}
use Rattle.sj_text_core.specs.inner.Parse.{Reading, is_hex, unit_at, is_high, is_low, pair_with, pair_at, code_with, code_at, escape_at, with_front, text_from, read_text}

-- a counter of bytes passes over them
pub text_skip : (k : ℕ) (b : List ℕ) → text_from k b ≡ read_text (drop k b)
unfolding text_from
text_skip zero [] = refl
text_skip (suc k) [] = refl
text_skip zero (c ∷ b) = refl
text_skip (suc k) (c ∷ b) = text_skip k b

-- a text needs its quote
pub text_nil : (k : ℕ) → text_from k [] ≡ None
unfolding text_from
text_nil k = refl

-- at the quote the text ends
pub text_quote : (b : List ℕ) → read_text (34 ∷ b) ≡ Some ([], b)
unfolding text_from
text_quote b = refl

abbrev pub with_escape : List ℕ → ℕ × ℕ → Reading (List ℕ)
with_escape b e = with_front (encode_utf8 e.0) (text_from e.1 b)

-- a backslash begins an escape
pub text_backslash : (b : List ℕ) → read_text (92 ∷ b) ≡ option_and_then (λ e. with_escape b e) (escape_at b)
unfolding text_from
text_backslash b = refl

-- a byte that stands for itself
abbrev pub IsPlain : ℕ → Type 0
IsPlain c = (32 ≤ c) × (c ≢ 34) × (c ≢ 92)

pub choose : {X : Type 0} (c : ℕ) (q e n p : X) → IsPlain c → (if c == 34 then q else if c == 92 then e else if nat_lt c 32 then n else p) ≡ p
choose c q e n p h = grind (arith, nat_tests)

-- a plain byte is a byte of the text
pub text_plain : (c : ℕ) (b : List ℕ) → IsPlain c → read_text (c ∷ b) ≡ with_front (c ∷ []) (read_text b)
unfolding text_from
text_plain c b h = choose c _ _ _ _ h

pub refuse : {X : Type 0} (c : ℕ) (q e n p : X) → c < 32 → (if c == 34 then q else if c == 92 then e else if nat_lt c 32 then n else p) ≡ n
refuse c q e n p h = grind (arith, nat_tests)

-- a control byte is refused
pub text_control : (c : ℕ) (b : List ℕ) → c < 32 → read_text (c ∷ b) ≡ None
unfolding text_from
text_control c b h = refuse c _ _ _ _ h

-- two fronts are one
pub with_front_front : (a b : List ℕ) (o : Reading (List ℕ)) → with_front a (with_front b o) ≡ with_front (a ++ b) o
with_front_front a b None = refl
with_front_front a b (Some p) = ap (λ l. Some (l, p.1)) (sym (append_assoc a b p.0))

-- an empty front changes nothing
pub with_nothing : (o : Reading (List ℕ)) → with_front [] o ≡ o
with_nothing None = refl
with_nothing (Some p) = refl

-- what was read behind a front
pub with_front_some : (f : List ℕ) (o : Reading (List ℕ)) (s r : List ℕ) → with_front f o ≡ Some (s, r) → (t : List ℕ) × (o ≡ Some (t, r)) × (s ≡ f ++ t)
with_front_some f None s r e = absurd (none-some (s, r) e)
with_front_some f (Some p) s r e = let k = some_pair_parts (f ++ p.0) s p.1 r e in (p.0, ap (λ l. Some (p.0, l)) k.1, sym k.0)

-- plain bytes are bytes of the text
pub text_run : (p b : List ℕ) → AllByRecursion IsPlain p → read_text (p ++ b) ≡ with_front p (read_text b)
text_run [] b h = sym (with_nothing (read_text b))
text_run (c ∷ p) b h = text_plain c (p ++ b) h.0 ∙ (ap (λ o. with_front (c ∷ []) o) (text_run p b h.1) ∙ with_front_front (c ∷ []) p (read_text b))

-- what a byte is to a text
pub data Byte (c : ℕ) : Type 0 where
  quote : c ≡ 34 → Byte c
  backslash : c ≡ 92 → Byte c
  control : c < 32 → Byte c
  plain : IsPlain c → Byte c

-- each byte is one of these
pub byte_of : (c : ℕ) → Byte c
byte_of c = ⊎_elim (λ q. quote q.1) (λ q. ⊎_elim (λ s. backslash s.1) (λ s. by_size c q.1 s.1 (nat_lt c 32) refl) (eqb_tells c 92)) (eqb_tells c 34)
  where
    by_size : (c : ℕ) → c ≢ 34 → c ≢ 92 → (t : Bool) → nat_lt c 32 ≡ t → Byte c
    by_size c q s true e = control (small c e)
      where
        small : (c : ℕ) → nat_lt c 32 ≡ true → c < 32
        small c e = grind (arith, nat_tests)
    by_size c q s false e = plain (large c e, q, s)
      where
        large : (c : ℕ) → nat_lt c 32 ≡ false → 32 ≤ c
        large c e = grind (arith, nat_tests)

pub later : (k c : ℕ) (b : List ℕ) → text_from k b ≡ text_from (suc k) (c ∷ b)
unfolding text_from
later k c b = refl

-- the quote that ends the text
pub text_ends : (k : ℕ) (b s r : List ℕ) → text_from k b ≡ Some (s, r) → (inside : List ℕ) × (b ≡ inside ++ (34 ∷ r))
text_ends k [] s r e = absurd (none-some (s, r) (sym (text_nil k) ∙ e))
text_ends (suc k) (c ∷ b) s r e = let q = text_ends k b s r (later k c b ∙ e) in (c ∷ q.0, ap (λ l. c ∷ l) q.1)
text_ends zero (c ∷ b) s r e = by_byte c (byte_of c) b s r e (λ k s r e. text_ends k b s r e)
  where
    by_byte : (c : ℕ) → Byte c → (b s r : List ℕ) → read_text (c ∷ b) ≡ Some (s, r) → ((k : ℕ) (s r : List ℕ) → text_from k b ≡ Some (s, r) → (inside : List ℕ) × (b ≡ inside ++ (34 ∷ r)))
        → (inside : List ℕ) × (c ∷ b ≡ inside ++ (34 ∷ r))
    by_byte c (quote z) b s r e ih = let q = some_pair_parts [] s b r (sym (text_quote b) ∙ (ap (λ x. read_text (x ∷ b)) (sym z) ∙ e)) in ([], ap (λ x. x ∷ b) z ∙ ap (λ l. 34 ∷ l) q.1)
    by_byte c (backslash z) b s r e ih =
        option_and_then_some (λ p. with_escape b p) (escape_at b) (s, r) (sym (text_backslash b) ∙ (ap (λ x. read_text (x ∷ b)) (sym z) ∙ e))
        (λ p e1 e2. let w = with_front_some (encode_utf8 p.0) (text_from p.1 b) s r e2 in let q = ih p.1 w.0 r w.1 in (c ∷ q.0, ap (λ l. c ∷ l) q.1))
    by_byte c (control z) b s r e ih = absurd (none-some (s, r) (sym (text_control c b z) ∙ e))
    by_byte c (plain z) b s r e ih =
        let w = with_front_some (c ∷ []) (read_text b) s r (sym (text_plain c b z) ∙ e) in let q = ih 0 w.0 r w.1 in (c ∷ q.0, ap (λ l. c ∷ l) q.1)

-- the bytes of a character that stands for itself
pub high_plain : (b : ℕ) → 128 ≤ b → IsPlain b
high_plain b h = (omega (arith, h), (λ e. omega (arith, h, e)), (λ e. omega (arith, h, e)))

-- past ASCII each byte is 128 or more
pub encode_high : (c : ℕ) → 128 ≤ c → AllByRecursion (λ b. 128 ≤ b) (encode_utf8 c)
unfolding encode_utf8
encode_high c h = by (nat_lt c 128) (nat_lt c 2048) (nat_lt c 65536) refl
  where
    by : (x y z : Bool) → nat_lt c 128 ≡ x → AllByRecursion (λ b. 128 ≤ b) (cond x (c ∷ []) (cond y ((192 + c / 64) ∷ (128 + c % 64) ∷ []) (cond z ((224 + c / 4096) ∷ (128 + c / 64 % 64) ∷ (128 + c % 64) ∷ []) ((240 + c / 262144) ∷ (128 + c / 4096 % 64) ∷ (128 + c / 64 % 64) ∷ (128 + c % 64) ∷ []))))
    by true y z e = absurd (omega (arith, h, ltb-true c 128 e))
    by false true z e = (omega arith, (omega arith, tt))
    by false false true e = (omega arith, (omega arith, (omega arith, tt)))
    by false false false e = (omega arith, (omega arith, (omega arith, (omega arith, tt))))

pub all_plain : (p : List ℕ) → AllByRecursion (λ b. 128 ≤ b) p → AllByRecursion IsPlain p
all_plain [] h = tt
all_plain (b ∷ p) h = (high_plain b h.0, all_plain p h.1)

-- a plain character has plain bytes
pub encode_plain : (c : ℕ) → IsPlain c → AllByRecursion IsPlain (encode_utf8 c)
encode_plain c h = ⊎_elim
    (λ k. subst (λ l. AllByRecursion IsPlain l) (sym (encode_ascii c k)) (h, tt))
    (λ k. all_plain (encode_utf8 c) (encode_high c k))
    (low_or_high c)
  where
    low_or_high : (c : ℕ) → (c < 128) ⊎ (128 ≤ c)
    low_or_high c = by (nat_lt c 128) refl
      where
        by : (t : Bool) → nat_lt c 128 ≡ t → (c < 128) ⊎ (128 ≤ c)
        by true e = inl (ltb-true c 128 e)
        by false e = inr (ltb-false c 128 e)

-- what was read behind a backslash
pub record Escape (b : List ℕ) (c n : ℕ) : Type 0 where
  pub some : 0 < n
  pub fits : n ≤ length b
  pub item : IsItem c (92 ∷ take n b)
  pub ascii : get_or b (n - 1) 0 < 128
  pub room : length (encode_utf8 c) ≤ n

pub first_byte : (b : List ℕ) (x : ℕ) → get_or b 0 0 ≡ x → 0 < x → b ≡ x ∷ drop 1 b
first_byte [] x e h = absurd (omega (arith, e, h))
first_byte (c ∷ b) x e h = ap (λ y. y ∷ b) e

-- four hexadecimal digits stand first
pub record Unit4 (b : List ℕ) (u : ℕ) : Type 0 where
  pub fits : 4 ≤ length b
  pub unit : IsUnit u (92 ∷ 117 ∷ take 4 b)
  pub below : u < 65536
  pub last : get_or b 3 0 < 128

pub hex_byte : (d : ℕ) → is_hex d ≡ true → digit_value d < 16
hex_byte d e = ltb-true (digit_value d) 16 e

pub not_hex : is_hex 0 ≡ true → ⊥
not_hex e = absurd (omega (arith, ltb-true 36 16 e))

-- what four digits write, as a relation
pub unit_sound : (b : List ℕ) (u : ℕ) → unit_at b ≡ Some u → Unit4 b u
unit_sound b u e =
    let t = cond_some (is_hex (get_or b 0 0) && is_hex (get_or b 1 0) && is_hex (get_or b 2 0) && is_hex (get_or b 3 0)) _ u e in
    let h3 = and_parts (is_hex (get_or b 0 0) && is_hex (get_or b 1 0) && is_hex (get_or b 2 0)) (is_hex (get_or b 3 0)) t.0 in
    let h2 = and_parts (is_hex (get_or b 0 0) && is_hex (get_or b 1 0)) (is_hex (get_or b 2 0)) h3.0 in
    let h1 = and_parts (is_hex (get_or b 0 0)) (is_hex (get_or b 1 0)) h2.0 in
    by b h1.0 h1.1 h2.1 h3.1 t.1
  where
    by : (b : List ℕ) → is_hex (get_or b 0 0) ≡ true → is_hex (get_or b 1 0) ≡ true → is_hex (get_or b 2 0) ≡ true → is_hex (get_or b 3 0) ≡ true
        → digit_value (get_or b 0 0) * 4096 + digit_value (get_or b 1 0) * 256 + digit_value (get_or b 2 0) * 16 + digit_value (get_or b 3 0) ≡ u → Unit4 b u
    by [] h0 h1 h2 h3 v = absurd (not_hex h0)
    by (w ∷ []) h0 h1 h2 h3 v = absurd (not_hex h1)
    by (w ∷ x ∷ []) h0 h1 h2 h3 v = absurd (not_hex h2)
    by (w ∷ x ∷ y ∷ []) h0 h1 h2 h3 v = absurd (not_hex h3)
    by (w ∷ x ∷ y ∷ z ∷ b) h0 h1 h2 h3 v = record {
      fits = omega arith;
      unit = record { digits = w ∷ x ∷ y ∷ z ∷ []; is = refl; four = refl; hex = (hex_byte w h0, (hex_byte x h1, (hex_byte y h2, (hex_byte z h3, tt)))); value = sym v ∙ omega arith };
      below = omega (arith, v, hex_byte w h0, hex_byte x h1, hex_byte y h2, hex_byte z h3);
      last = hex_ascii z (hex_byte z h3);
    }

pub encode_len : (c : ℕ) → length (encode_utf8 c) ≤ 4
encode_len c = subst (λ (n : ℕ). n ≤ 4) (sym (length-encode c)) (grind arith)

pub one_escape : (x c : ℕ) (b : List ℕ) → short_escape x ≡ Some c → Escape (x ∷ b) c 1
one_escape x c b e = record { some = omega arith; fits = omega arith; item = inr (inl (record { second = x; is = refl; names = e })); ascii = short_ascii x c e; room = omega (arith, ap (λ (l : List ℕ). length l) (encode_ascii c (short_scalar x c e))) }

pub short_sound : (b : List ℕ) (c n : ℕ) → option_map {U = ℕ × ℕ} (λ c. (c, 1)) (short_escape (get_or b 0 0)) ≡ Some (c, n) → Escape b c n
short_sound b c n e = by (short_escape (get_or b 0 0)) refl e
  where
    at : (b : List ℕ) (d : ℕ) → short_escape (get_or b 0 0) ≡ Some d → Escape b d 1
    at [] d f = absurd (none-some d f)
    at (x ∷ b) d f = one_escape x d b f

    by : (o : Option ℕ) → short_escape (get_or b 0 0) ≡ o → option_map {U = ℕ × ℕ} (λ c. (c, 1)) o ≡ Some (c, n) → Escape b c n
    by None f g = absurd (none-some (c, n) g)
    by (Some d) f g = let k = some_pair_parts d c 1 n g in subst (λ (m : ℕ). Escape b c m) k.1 (subst (λ (d : ℕ). Escape b d 1) k.0 (at b d f))

pub is_scalar : (u : ℕ) → u < 65536 → is_high u ≡ false → is_low u ≡ false → IsScalar u
is_scalar u h k l = grind (arith, nat_tests)

pub high_range : (u : ℕ) → is_high u ≡ true → (0xD800 ≤ u) × (u ≤ 0xDBFF)
high_range u e = let k = and_parts (nat_le 0xD800 u) _ e in (grind (arith, nat_tests), grind (arith, nat_tests))

pub low_range : (u : ℕ) → is_low u ≡ true → (0xDC00 ≤ u) × (u ≤ 0xDFFF)
low_range u e = let k = and_parts (nat_le 0xDC00 u) _ e in (grind (arith, nat_tests), grind (arith, nat_tests))

-- what was read behind a backslash, as a relation
pub escape_sound : (b : List ℕ) (c n : ℕ) → escape_at b ≡ Some (c, n) → Escape b c n
escape_sound b c n e = by (get_or b 0 0 == 117) refl
  where
    code : (b : List ℕ) → code_at b ≡ Some (c, n) → Escape (117 ∷ b) c n
    code b e = option_and_then_some (λ u. code_with u (drop 4 b)) (unit_at b) (c, n) e (λ u e1 e2. of_unit u (unit_sound b u e1) e2)
      where
        of_unit : (u : ℕ) → Unit4 b u → code_with u (drop 4 b) ≡ Some (c, n) → Escape (117 ∷ b) c n
        of_unit u k e = tests (is_high u) (is_low u) refl refl e
          where
            tests : (h l : Bool) → is_high u ≡ h → is_low u ≡ l → (if h then pair_at u (drop 4 b) else if l then None else Some (u, 5)) ≡ Some (c, n) → Escape (117 ∷ b) c n
            tests false true f g e = absurd (none-some (c, n) e)
            tests false false f g e =
                let p = some_pair_parts u c 5 n e in
                subst (λ (m : ℕ). Escape (117 ∷ b) c m) p.1 (subst (λ (d : ℕ). Escape (117 ∷ b) d 5) p.0
                (record { some = omega arith; fits = omega (arith, k.fits); item = inr (inr (inl (record { unit = k.unit; scalar = is_scalar u k.below f g }))); ascii = k.last; room = omega (arith, encode_len u) }))
            tests true l f g e =
                let d = drop 4 b in
                pair (get_or d 0 0 == 92) (get_or d 1 0 == 117) refl refl e
              where
                pair : (s t : Bool) → (get_or (drop 4 b) 0 0 == 92) ≡ s → (get_or (drop 4 b) 1 0 == 117) ≡ t
                    → (if s && t then option_and_then (λ low. pair_with u low) (unit_at (drop 2 (drop 4 b))) else None) ≡ Some (c, n) → Escape (117 ∷ b) c n
                pair false t i j e = absurd (none-some (c, n) e)
                pair true false i j e = absurd (none-some (c, n) e)
                pair true true i j e = option_and_then_some (λ low. pair_with u low) (unit_at (drop 2 (drop 4 b))) (c, n) e (λ low e1 e2.
                    let m = unit_sound (drop 2 (drop 4 b)) low e1 in
                    let t = cond_some (is_low low) _ (c, n) e2 in
                    let p = some_pair_parts _ c 11 n (ap (λ x. Some x) t.1) in
                    let six : drop 2 (drop 4 b) ≡ drop 6 b = drop-drop 2 4 b in
                    let fits : 10 ≤ length b = omega (arith, m.fits, length-drop 2 (drop 4 b), length-drop 4 b) in
                    let r1 : drop 4 b ≡ 92 ∷ drop 1 (drop 4 b) = first_byte (drop 4 b) 92 (eqb-true _ _ i) (omega arith) in
                    let r2 : drop 1 (drop 4 b) ≡ 117 ∷ drop 2 (drop 4 b) =
                    first_byte (drop 1 (drop 4 b)) 117 (get_or-drop 1 (drop 4 b) 0 0 ∙ eqb-true _ _ j) (omega arith) ∙ ap (λ l. 117 ∷ l) (drop-drop 1 1 (drop 4 b)) in
                    let whole : take 10 b ≡ take 4 b ++ (92 ∷ 117 ∷ take 4 (drop 2 (drop 4 b))) =
                    ap (λ l. take 10 l) (sym (take-append-drop 4 b) ∙ ap (λ l. take 4 b ++ l) (r1 ∙ ap (λ l. 92 ∷ l) r2)) ∙ front_taken (take 4 b) (drop 2 (drop 4 b)) (length-take-le 4 b (omega (arith, fits))) in
                    let h = high_range u f in
                    let w = low_range low t.0 in
                    subst (λ (m : ℕ). Escape (117 ∷ b) c m) p.1 (subst (λ (d : ℕ). Escape (117 ∷ b) d 11) p.0 (record {
                      some = omega arith;
                      fits = omega (arith, fits);
                      item = inr (inr (inr (record {
                        high = u;
                        low = low;
                        first = 92 ∷ 117 ∷ take 4 b;
                        second = 92 ∷ 117 ∷ take 4 (drop 2 (drop 4 b));
                        is = ap (λ l. 92 ∷ 117 ∷ l) whole;
                        first_unit = k.unit;
                        second_unit = m.unit;
                        is_high = h;
                        is_low = w;
                        writes = refl;
                      })));
                      ascii = subst (λ (x : ℕ). x < 128) (get_or-drop 2 (drop 4 b) 3 0 ∙ get_or-drop 4 b 5 0) m.last;
                      room = omega (arith, encode_len (surrogate_pair_char u low));
                    })))
                  where
                    front_taken : (p q : List ℕ) → length p ≡ 4 → take 10 (p ++ (92 ∷ 117 ∷ q)) ≡ p ++ (92 ∷ 117 ∷ take 4 q)
                    front_taken [] q h = absurd (omega (arith, h))
                    front_taken (w ∷ []) q h = absurd (omega (arith, h))
                    front_taken (w ∷ x ∷ []) q h = absurd (omega (arith, h))
                    front_taken (w ∷ x ∷ y ∷ []) q h = absurd (omega (arith, h))
                    front_taken (w ∷ x ∷ y ∷ z ∷ []) q h = refl
                    front_taken (w ∷ x ∷ y ∷ z ∷ v ∷ p) q h = absurd (omega (arith, h))

    by : (t : Bool) → (get_or b 0 0 == 117) ≡ t → Escape b c n
    by true f =
        let k : b ≡ 117 ∷ drop 1 b = first_byte b 117 (eqb-true _ _ f) (omega arith) in
        subst (λ l. Escape l c n) (sym k) (code (drop 1 b) (sym (ap (λ t. cond t (code_at (drop 1 b)) (option_map {U = ℕ × ℕ} (λ c. (c, 1)) (short_escape (get_or b 0 0)))) f) ∙ e))
    by false f = short_sound b c n (sym (ap (λ t. cond t (code_at (drop 1 b)) (option_map {U = ℕ × ℕ} (λ c. (c, 1)) (short_escape (get_or b 0 0)))) f) ∙ e)

pub false-true : false ≡ true → ⊥
false-true e = subst (λ (t : Bool). cond t ⊥ (Unit {0})) e tt
