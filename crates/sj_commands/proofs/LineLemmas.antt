-- The document is the beginning of the input, and the lines in front of a place.
use Rattle.std.proofs.Common.{◌≡◌, ℕ, ◌+◌, ◌-◌, ◌≤◌, Bool, true, false, List, [], ◌∷◌, ◌++◌, length, take, drop, take-take, refl, subst, sym, ap, ◌∙◌, append_assoc, if◌then◌else◌, arith}
use Rattle.std.specs.List.{concat, slice_range}
use Rattle.std.proofs.lemmas.List.{take_all, drop_all, drop-drop, length-drop, append-nil, drop-take, take-append-drop}
use Rattle.sj_commands.specs.Lines.{full_lines, is_mark, before_mark, after_mark, document}
use Rattle.sj_lines.proofs.LineLemmas.{concat-full_lines}

one_line : (l : List ℕ) (ls : List (List ℕ)) (x : Bool) → (rest : List ℕ) × (concat ls ≡ before_mark ls ++ rest)
    → (rest : List ℕ) × (l ++ concat ls ≡ (if x then [] else l ++ before_mark ls) ++ rest)
one_line l ls true h = (l ++ concat ls, refl)
one_line l ls false h = (h.0, ap (λ m. l ++ m) h.1 ∙ sym (append_assoc l (before_mark ls) h.0))

before_mark-begins : (ls : List (List ℕ)) → (rest : List ℕ) × (concat ls ≡ before_mark ls ++ rest)
before_mark-begins [] = ([], refl)
before_mark-begins (l ∷ ls) = one_line l ls (is_mark l) (before_mark-begins ls)

pub document-begins : (b : List ℕ) → (rest : List ℕ) × (b ≡ document b ++ rest)
document-begins b = let h = before_mark-begins (full_lines b) in (h.0, sym (concat-full_lines b) ∙ h.1)

-- the lines before a place are no mark
pub record Passed (b : List ℕ) (at : ℕ) : Type 0 where
  pub within : at ≤ length b
  pub document : before_mark (full_lines b) ≡ take at b ++ before_mark (full_lines (drop at b))
  pub commands : after_mark (full_lines b) ≡ after_mark (full_lines (drop at b))

take-join : (b : List ℕ) (at n : ℕ) → take at b ++ take n (drop at b) ≡ take (at + n) b
take-join b at n = ap (λ l. take at b ++ l) (sym (drop-take at n b)) ∙ (let k : take at b ≡ take at (take (at + n) b) = sym (take-take at (at + n) b (omega arith)) in ap (λ l. l ++ drop at (take (at + n) b)) k) ∙ take-append-drop at (take (at + n) b)

-- the line at a place, of n bytes
pub record LineAt (b : List ℕ) (at n : ℕ) : Type 0 where
  pub within : n ≤ length (drop at b)
  pub first : full_lines (drop at b) ≡ take n (drop at b) ∷ full_lines (drop n (drop at b))

on : (b : List ℕ) (at n : ℕ) → drop n (drop at b) ≡ drop (at + n) b
on b at n = drop-drop n at b

pub passed-more : (b : List ℕ) (at n : ℕ) → Passed b at → LineAt b at n → is_mark (take n (drop at b)) ≡ false → Passed b (at + n)
passed-more b at n p l e =
    let rest = full_lines (drop n (drop at b)) in
    record {
      within = omega (arith, p.within, l.within, length-drop at b);
      document =
          p.document ∙ ap (λ ls. take at b ++ before_mark ls) l.first ∙ (λ i. take at b ++ (if e i then [] else take n (drop at b) ++ before_mark rest))
          ∙ sym (append_assoc (take at b) (take n (drop at b)) (before_mark rest)) ∙ (λ i. take-join b at n i ++ before_mark (full_lines (on b at n i)));
      commands = p.commands ∙ ap (λ ls. after_mark ls) l.first ∙ (λ i. if e i then rest else after_mark rest) ∙ ap (λ r. after_mark (full_lines r)) (on b at n);
    }

pub document-end : (b : List ℕ) (at : ℕ) → Passed b at → length b ≤ at → take at b ≡ before_mark (full_lines b)
document-end b at p h = sym (p.document ∙ ap (λ r. take at b ++ before_mark (full_lines r)) (drop_all at b h) ∙ append-nil (take at b))

-- as the code cuts it
pub line_at : (b : List ℕ) (at n : ℕ) → let r = take (length b - at) (drop at b) in
    n ≤ length r → full_lines r ≡ take n r ∷ full_lines (drop n r) → LineAt b at n
line_at b at n h f =
    let whole : take (length b - at) (drop at b) ≡ drop at b = take_all (length b - at) (drop at b) (omega (arith, length-drop at b)) in
    record {
      within = subst (λ (r : List ℕ). n ≤ length r) whole h;
      first = subst (λ (r : List ℕ). full_lines r ≡ take n r ∷ full_lines (drop n r)) whole f;
    }

pub marked : (b : List ℕ) (at n : ℕ) → is_mark (slice_range b at (at + n)) ≡ is_mark (take n (drop at b))
marked b at n = let k : (at + n) - at ≡ n = omega arith in ap (λ m. is_mark (take m (drop at b))) k
