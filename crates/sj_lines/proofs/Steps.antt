-- One line is taken off the front of what is ahead.
use Rattle.std.proofs.Common.{◌≡◌, ℕ, suc, ◌+◌, ◌<◌, ◌≤◌, Bool, true, false, List, [], ◌∷◌, ◌++◌, length, take, drop, refl, sym, ap, ◌∙◌, if◌then◌else◌, arith, map, not}
use Rattle.sj_text_core.specs.Places.{is_empty}
use Rattle.sj_lines.specs.Lines.{full_lines, line_text, line_texts, numbered}

full-some : (s : List ℕ) → 0 < length s → is_empty s ≡ false
full-some [] h = absurd (omega (arith, h))
full-some (x ∷ s) h = refl

empty-none : (s : List ℕ) → length s ≤ 0 → is_empty s ≡ true
empty-none [] h = refl
empty-none (x ∷ s) h = absurd (omega (arith, h))

numbered-on : (n : ℕ) (l : List ℕ) (ls : List (List ℕ)) → is_empty (line_text l) ≡ false → numbered n (l ∷ ls) ≡ (n, line_text l) ∷ numbered (suc n) ls
numbered-on n l ls e = λ i. if e i then numbered (suc n) ls else (n, line_text l) ∷ numbered (suc n) ls

numbered-over : (n : ℕ) (l : List ℕ) (ls : List (List ℕ)) → is_empty (line_text l) ≡ true → numbered n (l ∷ ls) ≡ numbered (suc n) ls
numbered-over n l ls e = λ i. if e i then numbered (suc n) ls else (n, line_text l) ∷ numbered (suc n) ls

-- the first line of some bytes, and those behind it
pub record First (rest line behind : List ℕ) : Type 0 where
  pub n : ℕ
  pub first : full_lines rest ≡ take n rest ∷ full_lines (drop n rest)
  pub line_is : line ≡ take n rest
  pub behind_is : behind ≡ drop n rest

cut : (rest line behind : List ℕ) → First rest line behind → full_lines rest ≡ line ∷ full_lines behind
cut rest line behind f = f.first ∙ sym (λ i. f.line_is i ∷ full_lines (f.behind_is i))

pub given : (k : ℕ) (rest line behind text : List ℕ) → First rest line behind → text ≡ line_text line → 0 < length text
    → numbered (suc k) (full_lines rest) ≡ (suc k, text) ∷ numbered (suc (suc k)) (full_lines behind)
given k rest line behind text f t some =
    ap (numbered (suc k)) (cut rest line behind f)
    ∙ numbered-on (suc k) line (full_lines behind) (ap is_empty (sym t) ∙ full-some text some)
    ∙ sym (ap (λ s. (suc k, s) ∷ numbered (suc (suc k)) (full_lines behind)) t)

pub passed : (k : ℕ) (rest line behind text : List ℕ) → First rest line behind → text ≡ line_text line → length text ≤ 0
    → numbered (suc k) (full_lines rest) ≡ numbered (suc (suc k)) (full_lines behind)
passed k rest line behind text f t none =
    ap (numbered (suc k)) (cut rest line behind f)
    ∙ numbered-over (suc k) line (full_lines behind) (ap is_empty (sym t) ∙ empty-none text none)

one_text : (x : Bool) (n : ℕ) (s : List ℕ) (ps : List (ℕ × List ℕ)) (ss : List (List ℕ)) → map (λ p. p.1) ps ≡ ss
    → map (λ p. p.1) (if x then ps else (n, s) ∷ ps) ≡ (if not x then s ∷ ss else ss)
one_text true n s ps ss e = e
one_text false n s ps ss e = ap (λ l. s ∷ l) e

-- by any number of the first
pub numbered-texts : (n : ℕ) (ls : List (List ℕ)) → map (λ p. p.1) (numbered n ls) ≡ line_texts ls
numbered-texts n [] = refl
numbered-texts n (l ∷ ls) = one_text (is_empty (line_text l)) n (line_text l) (numbered (suc n) ls) (line_texts ls) (numbered-texts (suc n) ls)

one_number : (x : Bool) (n : ℕ) (s : List ℕ) (all ps qs : List (ℕ × List ℕ)) → all ≡ ps ++ qs
    → (if x then all else (n, s) ∷ all) ≡ (if x then ps else (n, s) ∷ ps) ++ qs
one_number true n s all ps qs e = e
one_number false n s all ps qs e = ap (λ l. (n, s) ∷ l) e

pub numbered-append : (n : ℕ) (ls ms : List (List ℕ)) → numbered n (ls ++ ms) ≡ numbered n ls ++ numbered (n + length ls) ms
numbered-append n [] ms = let e : n ≡ n + 0 = omega arith in ap (λ k. numbered k ms) e
numbered-append n (l ∷ ls) ms =
    let e : suc n + length ls ≡ n + length (l ∷ ls) = omega arith in
    one_number (is_empty (line_text l)) n (line_text l) (numbered (suc n) (ls ++ ms)) (numbered (suc n) ls) (numbered (n + length (l ∷ ls)) ms)
    (numbered-append (suc n) ls ms ∙ ap (λ k. numbered (suc n) ls ++ numbered k ms) e)
