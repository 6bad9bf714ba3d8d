-- The lines of a piece, and of what is behind it.
use Rattle.std.proofs.Common.{◌≡◌, ℕ, ◌<◌, Bool, true, false, List, [], ◌∷◌, ◌++◌, Option, Some, None, IfSome, length, refl, sym, ap, ◌∙◌, subst, append_assoc, append-nil, take, get_or, arith, ◌+◌, ◌-◌, if◌then◌else◌, ◌==◌, inl, inr, eqb-true}
use Rattle.std.specs.Prelude.{◌⊎◌}
use Rattle.std.proofs.lemmas.List.{take_more, take_all}
use Rattle.std.specs.Io.KnownBytes.{Consumes}
use Rattle.std.specs.Io.BufRead.{take_through, drop_through, DropsThrough}
use Rattle.sj_lines.specs.Lines.{full_lines, onto_line}
use Rattle.sj_pieces.specs.Pieces.{SplitsLines}

-- bytes have a line
head_line : (c : ℕ) (b : List ℕ) → (l : List ℕ) × ((ls : List (List ℕ)) × (full_lines (c ∷ b) ≡ l ∷ ls))
head_line c b = by_test (c == 10) (full_lines b)
  where
    onto : (ls : List (List ℕ)) → (l : List ℕ) × ((ms : List (List ℕ)) × (onto_line c ls ≡ l ∷ ms))
    onto [] = (c ∷ [], ([], refl))
    onto (l ∷ ls) = (c ∷ l, (ls, refl))

    by_test : (x : Bool) (ls : List (List ℕ)) → (l : List ℕ) × ((ms : List (List ℕ)) × ((if x then (c ∷ []) ∷ ls else onto_line c ls) ≡ l ∷ ms))
    by_test true ls = (c ∷ [], (ls, refl))
    by_test false ls = onto ls

onto-append : (c : ℕ) (l : List ℕ) (ks ls ms : List (List ℕ)) → ks ≡ l ∷ ls → onto_line c (ks ++ ms) ≡ onto_line c ks ++ ms
onto-append c l ks ls ms e = subst (λ (xs : List (List ℕ)). onto_line c (xs ++ ms) ≡ onto_line c xs ++ ms) (sym e) refl

one_more : (c : ℕ) (x : Bool) (ks bs ms : List (List ℕ)) (l : List ℕ) (ls : List (List ℕ)) → ks ≡ l ∷ ls → bs ≡ ks ++ ms
    → (if x then (c ∷ []) ∷ bs else onto_line c bs) ≡ (if x then (c ∷ []) ∷ ks else onto_line c ks) ++ ms
one_more c true ks bs ms l ls e h = ap (λ xs. (c ∷ []) ∷ xs) h
one_more c false ks bs ms l ls e h = ap (λ xs. onto_line c xs) h ∙ onto-append c l ks ls ms e

some_line : (u : List ℕ) → (l : List ℕ) × ((ls : List (List ℕ)) × (full_lines (u ++ 10 ∷ []) ≡ l ∷ ls))
some_line [] = head_line 10 []
some_line (x ∷ u) = head_line x (u ++ 10 ∷ [])

-- behind a line feed new lines begin
lines-join : (u b : List ℕ) → full_lines ((u ++ 10 ∷ []) ++ b) ≡ full_lines (u ++ 10 ∷ []) ++ full_lines b
lines-join [] b = refl
lines-join (c ∷ u) b =
    let s = some_line u in
    one_more c (c == 10) (full_lines (u ++ 10 ∷ [])) (full_lines ((u ++ 10 ∷ []) ++ b)) (full_lines b) s.0 s.1.0 s.1.1 (lines-join u b)

-- a piece ends with a line feed, or nothing is behind it
abbrev Ends : List ℕ → List ℕ → Type 0
Ends p b = ((u : List ℕ) × (p ≡ u ++ 10 ∷ [])) ⊎ (b ≡ [])

joins : (p b : List ℕ) → Ends p b → full_lines (p ++ b) ≡ full_lines p ++ full_lines b
joins p b (inl h) = subst (λ (q : List ℕ). full_lines (q ++ b) ≡ full_lines q ++ full_lines b) (sym h.1) (lines-join h.0 b)
joins p b (inr e) = subst (λ (c : List ℕ). full_lines (p ++ c) ≡ full_lines p ++ full_lines c) (sym e) (ap full_lines (append-nil p) ∙ sym (append-nil (full_lines p)))

put-front : (c : ℕ) (x : Bool) (t d z : List ℕ) → (x ≡ true → c ≡ 10) → Ends t d → Ends (if x then c ∷ [] else c ∷ t) (if x then z else d)
put-front c true t d z e h = inl ([], ap (λ n. n ∷ []) (e refl))
put-front c false t d z e (inl h) = inl (c ∷ h.0, ap (λ xs. c ∷ xs) h.1)
put-front c false t d z e (inr h) = inr h

through : (z : List ℕ) → Ends (take_through 10 z) (drop_through 10 z)
through [] = inr refl
through (c ∷ z) = put-front c (c == 10) (take_through 10 z) (drop_through 10 z) z (λ e. eqb-true c 10 e) (through z)

join-test : (c : ℕ) (x : Bool) (t d z : List ℕ) → z ≡ t ++ d → c ∷ z ≡ (if x then c ∷ [] else c ∷ t) ++ (if x then z else d)
join-test c true t d z e = refl
join-test c false t d z e = ap (λ xs. c ∷ xs) e

through-join : (z : List ℕ) → z ≡ take_through 10 z ++ drop_through 10 z
through-join [] = refl
through-join (c ∷ z) = join-test c (c == 10) (take_through 10 z) (drop_through 10 z) z (through-join z)

behind : (a t d : List ℕ) → Ends t d → Ends (a ++ t) d
behind a t d (inl h) = inl (a ++ h.0, ap (λ (xs : List ℕ). a ++ xs) h.1 ∙ sym (append_assoc a h.0 (10 ∷ [])))
behind a t d (inr e) = inr e

-- a read, and the rest of its last line
pub read-through : (o m n : Option (List ℕ)) (a p : List ℕ) → Consumes o m a → IfSome m (λ z. p ≡ a ++ take_through 10 z) → DropsThrough m n 10 → SplitsLines o n p
read-through None m n a p c e d = tt
read-through (Some xs) None n a p c e d = absurd c
read-through (Some xs) (Some z) n a p c e d =
    let whole : xs ≡ p ++ drop_through 10 z =
    c ∙ ap (λ (ys : List ℕ). a ++ ys) (through-join z) ∙ sym (append_assoc a (take_through 10 z) (drop_through 10 z)) ∙ ap (λ (q : List ℕ). q ++ drop_through 10 z) (sym e) in
    let ends : Ends p (drop_through 10 z) = subst (λ (q : List ℕ). Ends q (drop_through 10 z)) (sym e) (behind a (take_through 10 z) (drop_through 10 z) (through z)) in
    subst (λ (k : Option (List ℕ)). SplitsLines (Some xs) k p) (sym d) (whole, ap full_lines whole ∙ joins p (drop_through 10 z) ends)

-- a read that ends with a line feed
pub read-full : (o n : Option (List ℕ)) (p u : List ℕ) → Consumes o n p → p ≡ u ++ 10 ∷ [] → SplitsLines o n p
read-full None n p u c e = tt
read-full (Some xs) None p u c e = absurd c
read-full (Some xs) (Some ys) p u c e = (c, ap full_lines c ∙ joins p ys (inl (u, e)))

-- a read of nothing
pub read-none : (o n : Option (List ℕ)) (p : List ℕ) → Consumes o n p → p ≡ [] → SplitsLines o n p
read-none None n p c e = tt
read-none (Some xs) None p c e = absurd c
read-none (Some xs) (Some ys) p c e = (c, ap full_lines (c ∙ ap (λ (q : List ℕ). q ++ ys) e) ∙ ap (λ (q : List ℕ). full_lines q ++ full_lines ys) (sym e))

-- bytes whose last one is a line feed
pub last-byte : (p : List ℕ) (n d : ℕ) → 0 < n → n ≡ length p → get_or p (n - 1) d ≡ 10 → (u : List ℕ) × (p ≡ u ++ 10 ∷ [])
last-byte p n d some e h =
    let i = n - 1 in
    let one : i + 1 ≡ n = omega (arith, some) in
    let whole : take (i + 1) p ≡ p = take_all (i + 1) p (omega (arith, one, e)) in
    (take i p, sym whole ∙ take_more p i d (omega (arith, one, e, some)) ∙ ap (λ (c : ℕ). take i p ++ c ∷ []) h)
