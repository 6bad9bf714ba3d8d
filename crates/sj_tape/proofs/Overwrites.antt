-- A text that is written over its own spelling while it is read.
use Rattle.std.proofs.Common.{◌≡◌, ℕ, ◌+◌, ◌-◌, ◌<◌, ◌≤◌, List, ◌++◌, length, take, drop, get_or, Some, None, IsUtf8, sym, ap, subst, ◌∙◌, arith, append-nil, length-drop, false}
use Rattle.std.specs.Prelude.{slice_range}
use Rattle.std.specs.Char.{encode_utf8}
use Rattle.std.specs.List.{prefix_len}
use Rattle.std.proofs.lemmas.List.{take-take, take-append-drop, length-take-le}
use Rattle.std.proofs.lemmas.Str.{IsUtf8-take, IsCharBoundary-before_ascii}
use Rattle.sj_text_core.proofs.Characters.{string_utf8}
use Rattle.sj_tape.specs.inner.Gives.{EndsUtf8}
use Rattle.sj_text_core.specs.inner.Parse.{escape_at, with_front, read_text}
use Rattle.sj_print.specs.inner.Runs.{is_plain}
use Rattle.sj_tape.proofs.Decode.{written, written_size, written_rest, written_text, same_byte, same_rest}
use Rattle.sj_text_core.proofs.parse.Escapes.{text_ends, with_front_front, escape_sound}
use Rattle.sj_tape.proofs.Places.{place_quote, place_control, place_escape, place_bad, place_end}
use Rattle.sj_tape.proofs.PlainRuns.{plain_so_far, stop_is, control_is}
use Rattle.sj_text_core.proofs.parse.Strings.{string_is}
use Rattle.sj_tape.proofs.Texts.{cut}

-- a text of UTF-8 is UTF-8
pub text_utf8 : (b s r : List ℕ) → IsUtf8 b → read_text b ≡ Some (s, r) → IsUtf8 s
text_utf8 b s r u e =
    let k = text_ends 0 b s r e in
    let inside : IsUtf8 k.0 = (cut k.0 r 34 (omega arith) (subst (λ l. IsUtf8 l) k.1 u)).0 in
    string_utf8 _ s (string_is k.0 r s inside (ap (λ l. read_text l) (sym k.1) ∙ e))

-- what is left of UTF-8
pub ends_cut : (b t : List ℕ) (n : ℕ) → IsUtf8 b → t ≡ drop n b → EndsUtf8 t
ends_cut b t n u e = (take n b, subst (λ l. IsUtf8 l) (sym (ap (λ l. take n b ++ l) e ∙ take-append-drop n b)) u)

-- a head up to a quote is UTF-8
pub head_utf8 : (b h : List ℕ) (e : ℕ) → IsUtf8 b → e < length b → get_or b e 0 ≡ 34 → h ≡ take (e + 1) b → IsUtf8 (take e h)
head_utf8 b h e u lt q k =
    subst (λ l. IsUtf8 l) (sym (ap (λ l. take e l) k ∙ take-take e (e + 1) b (omega arith)))
    (IsUtf8-take b e u (IsCharBoundary-before_ascii b e lt (omega (arith, q))))

-- the head of what was written
pub head_is : (b h : List ℕ) (to n : ℕ) → to ≤ n → h ≡ take n b → slice_range b 0 to ≡ take to h
head_is b h to n le k = ap (λ j. take j b) (omega arith) ∙ (sym (take-take to n b le) ∙ ap (λ l. take to l) (sym k))

-- how far a text was read and written
pub record Written (old b : List ℕ) (from to : ℕ) : Type 0 where
  pub order : to ≤ from
  pub high : from ≤ length old
  pub size : length b ≡ length old
  pub rest : drop from b ≡ drop from old
  pub stop : from < length old → is_plain (get_or old from 0) ≡ false
  pub text : read_text old ≡ with_front (slice_range b 0 to) (read_text (drop from old))

module _ (old b : List ℕ) (from to : ℕ) (w : Written old b from to) where
  old_byte : (c : ℕ) → get_or b from 0 ≡ c → get_or old from 0 ≡ c
  old_byte c e = sym (same_byte b old from from (omega arith) w.rest) ∙ e

  -- at the quote
  pub at_quote : (h t : List ℕ) → from < length b → get_or b from 0 ≡ 34 → h ≡ take (from + 1) b → t ≡ drop (from + 1) b → read_text old ≡ Some (take to h, t)
  at_quote h t lt q k m =
      let tail : drop (from + 1) old ≡ t = sym (same_rest b old from (from + 1) (omega arith) w.rest) ∙ sym m in
      w.text ∙ (ap (λ o. with_front (slice_range b 0 to) o) (place_quote old from (omega (arith, lt, w.size)) (old_byte 34 q))
      ∙ (ap (λ l. Some (l, drop (from + 1) old)) (append-nil (slice_range b 0 to) ∙ head_is b h to (from + 1) (omega (arith, w.order)) k) ∙ ap (λ l. Some (take to h, l)) tail))

  -- at a control byte
  pub at_control : from < length b → ¬ (get_or b from 0 ≡ 34) → ¬ (get_or b from 0 ≡ 92) → read_text old ≡ None
  at_control lt q s =
      let lt' : from < length old = omega (arith, lt, w.size) in
      let same = same_byte b old from from (omega arith) w.rest in
      w.text ∙ ap (λ o. with_front (slice_range b 0 to) o) (place_control old from lt' (control_is _ (w.stop lt') (λ e. q (same ∙ e)) (λ e. s (same ∙ e))))

  -- at a bad escape
  pub at_bad : from < length b → get_or b from 0 ≡ 92 → escape_at (drop (from + 1) b) ≡ None → read_text old ≡ None
  at_bad lt q e =
      w.text ∙ ap (λ o. with_front (slice_range b 0 to) o) (place_bad old from (omega (arith, lt, w.size)) (old_byte 92 q) (ap (λ l. escape_at l) (sym (same_rest b old from (from + 1) (omega arith) w.rest)) ∙ e))

  -- at the end
  pub at_end : length b ≤ from → read_text old ≡ None
  at_end h = w.text ∙ ap (λ o. with_front (slice_range b 0 to) o) (place_end old from (omega (arith, h, w.size)))

  -- an escape is longer than its character
  pub room : (c next : ℕ) → from + 1 < next → escape_at (drop (from + 1) b) ≡ Some (c, next - (from + 1)) → to + length (encode_utf8 c) ≤ next
  room c next l e = omega (arith, w.order, l, (escape_sound (drop (from + 1) b) c (next - (from + 1)) e).room)

  -- an escape and the run behind it
  pub step : (b1 b2 : List ℕ) (c next e to1 to2 : ℕ) → from < length b → get_or b from 0 ≡ 92 → from + 1 < next → next ≤ length b → escape_at (drop (from + 1) b) ≡ Some (c, next - (from + 1))
      → to1 ≡ to + length (encode_utf8 c) → b1 ≡ written b to (encode_utf8 c) → e ≡ next + prefix_len is_plain (drop next b1) → e ≤ length b1
      → to2 ≡ to1 + (e - next) → b2 ≡ take to1 b1 ++ (slice_range b1 next e ++ drop (to1 + (e - next)) b1) → Written old b2 e to2
  step b1 b2 c next e to1 to2 lt q l fit esc t1 w1 run high t2 w2 =
      let f = encode_utf8 c in
      let A = slice_range b 0 to in
      let rm = room c next l esc in
      let fits : to + length f ≤ length b = omega (arith, rm, fit) in
      let size1 : length b1 ≡ length b = ap (λ (l : List ℕ). length l) w1 ∙ written_size b to f fits in
      let rest1 : drop next b1 ≡ drop next old = ap (λ l. drop next l) w1 ∙ (written_rest b to f next fits rm ∙ same_rest b old from next (omega (arith, l)) w.rest) in
      let run0 : e ≡ next + prefix_len is_plain (drop next old) = run ∙ ap (λ l. next + prefix_len is_plain l) rest1 in
      let s = slice_range b1 next e in
      let same : s ≡ slice_range old next e = ap (λ l. take (e - next) l) rest1 in
      let n : length s ≡ e - next = length-take-le (e - next) (drop next b1) (omega (arith, high, length-drop next b1)) in
      let w2' : b2 ≡ written b1 to1 s = w2 ∙ ap (λ k. take to1 b1 ++ (s ++ drop (to1 + k) b1)) (sym n) in
      let fits2 : to1 + length s ≤ length b1 = omega (arith, n, t1, rm, high, run) in
      let one : slice_range b1 0 to1 ≡ A ++ f = ap (λ k. slice_range b1 0 k) t1 ∙ (ap (λ l. slice_range l 0 (to + length f)) w1 ∙ written_text b to f 0 fits (omega arith)) in
      let both : slice_range b2 0 to2 ≡ (A ++ f) ++ s = ap (λ k. slice_range b2 0 k) (omega (arith, t2, n)) ∙ (ap (λ l. slice_range l 0 (to1 + length s)) w2' ∙ (written_text b1 to1 s 0 fits2 (omega arith) ∙ ap (λ l. l ++ s) one)) in
      let esc0 = ap (λ l. escape_at l) (sym (same_rest b old from (from + 1) (omega arith) w.rest)) ∙ esc in
      record {
        order = omega (arith, t2, t1, rm, run);
        high = omega (arith, high, size1, w.size);
        size = ap (λ (l : List ℕ). length l) w2' ∙ (written_size b1 to1 s fits2 ∙ (size1 ∙ w.size));
        rest = ap (λ l. drop e l) w2' ∙ (written_rest b1 to1 s e fits2 (omega (arith, n, t1, rm, run)) ∙ same_rest b1 old next e (omega (arith, run)) rest1);
        stop = λ h. stop_is old next e run0 h;
        text = w.text
            ∙ (ap (λ o. with_front A o) (place_escape old from c next (omega (arith, lt, w.size)) (old_byte 92 q) l esc0)
            ∙ (with_front_front A f (read_text (drop next old))
            ∙ (ap (λ o. with_front (A ++ f) o) (plain_so_far old next e run0)
            ∙ (with_front_front (A ++ f) (slice_range old next e) (read_text (drop e old))
            ∙ ap (λ l. with_front l (read_text (drop e old))) (ap (λ l. (A ++ f) ++ l) (sym same) ∙ sym both)))));
      }
