-- Members put back that were taken out one after another.
use Rattle.std.proofs.Common.{◌≡◌, ◌<◌, ◌≤◌, ℕ, Bool, true, false, nat_lt, nat_le, List, [], ◌∷◌, ◌++◌, length, refl, sym, ap, ◌∙◌, subst, arith}
use Rattle.std.specs.Bool.{if◌then◌else◌}
use Rattle.std.specs.List.{insert}
use Rattle.std.proofs.lemmas.Bool.Decides.{nat_tests}
use Rattle.std.proofs.lemmas.List.Edits.{length-insert}
use Rattle.std.proofs.lemmas.Bool.{not-true, and_parts}
use Rattle.sj_text_core.specs.Keep.{is_seen}
use Rattle.sj_object.specs.Texts.{no_repeats}
use Rattle.sj_object.specs.Entries.{Entry, entry_texts, entries_of}
use Rattle.sj_object.specs.Rooms.{takes, restored, restored_all}
use Rattle.sj_object.proofs.Position.{is_some-lookup}
use Rattle.sj_object.proofs.Hashed.{entries-length}
use Rattle.sj_object.proofs.Inserted.{no_repeats-insert, texts-insert, entries-insert}

module _ {K V : Type 0} (n i : ℕ) (k : List ℕ) (es : List (Entry K V)) where
  -- what is known where one is taken
  record IsTaken : Type 0 where
    few : length es < n
    within : i ≤ length es
    unseen : is_seen k (entry_texts es) ≡ false

  taken : takes n i k es ≡ true → IsTaken
  taken e =
      let a = and_parts _ _ e in
      let b = and_parts (nat_lt (length es) n) (nat_le i (length es)) a.0 in
      record {
        few = grind (arith, nat_tests);
        within = grind (arith, nat_tests);
        unseen = sym (is_some-lookup k es) ∙ not-true _ a.1;
      }

module _ {K V : Type 0} (n i : ℕ) (q : K × List ℕ) (v : V) (es : List (Entry K V)) where
  pub restored-taken : takes n i q.1 es ≡ true → restored n i q v es ≡ insert es i (q, v)
  restored-taken e = λ j. if e j then insert es i (q, v) else es

  pub restored-left : takes n i q.1 es ≡ false → restored n i q v es ≡ es
  restored-left e = λ j. if e j then insert es i (q, v) else es

  pub restored-within : length es ≤ n → length (restored n i q v es) ≤ n
  restored-within l = by_test (takes n i q.1 es) refl where
    by_test : (b : Bool) → takes n i q.1 es ≡ b → length (restored n i q v es) ≤ n
    by_test true e = let h = taken n i q.1 es e in omega (arith, ap length (restored-taken e), length-insert es i (q, v) h.within, h.few)
    by_test false e = omega (arith, ap length (restored-left e), l)

  pub restored-distinct : no_repeats (entry_texts es) ≡ true → no_repeats (entry_texts (restored n i q v es)) ≡ true
  restored-distinct d = by_test (takes n i q.1 es) refl where
    by_test : (b : Bool) → takes n i q.1 es ≡ b → no_repeats (entry_texts (restored n i q v es)) ≡ true
    by_test true e = ap (λ l. no_repeats (entry_texts l)) (restored-taken e) ∙ ap no_repeats (texts-insert es i (q, v)) ∙ no_repeats-insert q.1 (entry_texts es) i d (taken n i q.1 es e).unseen
    by_test false e = ap (λ l. no_repeats (entry_texts l)) (restored-left e) ∙ d

  -- where there is no place for one more
  pub restored-full : n ≤ length es → restored n i q v es ≡ es
  restored-full l = restored-left (full (takes n i q.1 es) refl) where
    full : (b : Bool) → takes n i q.1 es ≡ b → takes n i q.1 es ≡ false
    full true e = let h = (taken n i q.1 es e).few in absurd (omega (arith, h, l))
    full false e = e

module _ {K V : Type 0} (t : K → List ℕ) (n : ℕ) where
  -- the last is put back first
  pub restored_all-last : (gs : List (ℕ × K × V)) (g : ℕ × K × V) (es : List (Entry K V)) → restored_all t n (gs ++ g ∷ []) es ≡ restored_all t n gs (restored n g.0 (g.1, t g.1) g.2 es)
  restored_all-last [] g es = refl
  restored_all-last (f ∷ gs) g es = ap (restored n f.0 (f.1, t f.1) f.2) (restored_all-last gs g es)

  pub restored_all-within : (gs : List (ℕ × K × V)) (es : List (Entry K V)) → length es ≤ n → length (restored_all t n gs es) ≤ n
  restored_all-within [] es l = l
  restored_all-within (g ∷ gs) es l = restored-within n g.0 (g.1, t g.1) g.2 (restored_all t n gs es) (restored_all-within gs es l)

  pub restored_all-distinct : (gs : List (ℕ × K × V)) (es : List (Entry K V)) → no_repeats (entry_texts es) ≡ true → no_repeats (entry_texts (restored_all t n gs es)) ≡ true
  restored_all-distinct [] es d = d
  restored_all-distinct (g ∷ gs) es d = restored-distinct n g.0 (g.1, t g.1) g.2 (restored_all t n gs es) (restored_all-distinct gs es d)

  pub restored_all-full : (gs : List (ℕ × K × V)) (es : List (Entry K V)) → n ≤ length es → restored_all t n gs es ≡ es
  restored_all-full [] es l = refl
  restored_all-full (g ∷ gs) es l =
      let h = restored_all-full gs es l in
      restored-full n g.0 (g.1, t g.1) g.2 (restored_all t n gs es) (subst (λ fs. n ≤ length fs) (sym h) l) ∙ h

module _ {K V : Type 0} (t : K → List ℕ) (n i : ℕ) (k : K) (ps : List (K × V)) where
  -- a test of these pairs and that key
  pub tested : (b r : Bool) (x : List ℕ) (ls : List (K × V)) → b ≡ takes n i x (entries_of t ls) → x ≡ t k → ls ≡ ps → b ≡ r → takes n i (t k) (entries_of t ps) ≡ r
  tested b r x ls e f h q = (λ j. takes n i (sym f j) (entries_of t (sym h j))) ∙ sym e ∙ q

  pub fits : takes n i (t k) (entries_of t ps) ≡ true → (length ps < n) × (i ≤ length ps)
  fits e = let h = taken n i (t k) (entries_of t ps) e in let l = entries-length t ps in (omega (arith, h.few, l), omega (arith, h.within, l))

-- the last of those that were taken out is let go, or put back
module _ {K V : Type 0} (t : K → List ℕ) (n i : ℕ) (k : K) (v : V) (ps : List (K × V)) where
  pub put_back-left : (gs fs : List (ℕ × K × V)) → takes n i (t k) (entries_of t ps) ≡ false → gs ≡ fs ++ (i, k, v) ∷ [] → restored_all t n fs (entries_of t ps) ≡ restored_all t n gs (entries_of t ps)
  put_back-left gs fs e h =
      ap (restored_all t n fs) (sym (restored-left n i (k, t k) v (entries_of t ps) e)) ∙ sym (restored_all-last t n fs (i, k, v) (entries_of t ps)) ∙ ap (λ gs. restored_all t n gs (entries_of t ps)) (sym h)

  pub put_back-taken : (qs : List (K × V)) (gs fs : List (ℕ × K × V)) → takes n i (t k) (entries_of t ps) ≡ true → qs ≡ insert ps i (k, v) → gs ≡ fs ++ (i, k, v) ∷ [] → restored_all t n fs (entries_of t qs) ≡ restored_all t n gs (entries_of t ps)
  put_back-taken qs gs fs e p h =
      ap (restored_all t n fs) (ap (entries_of t) p ∙ entries-insert t ps i (k, v) ∙ sym (restored-taken n i (k, t k) v (entries_of t ps) e)) ∙ sym (restored_all-last t n fs (i, k, v) (entries_of t ps))
      ∙ ap (λ gs. restored_all t n gs (entries_of t ps)) (sym h)
