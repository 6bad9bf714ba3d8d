-- What the calls of a map answer and leave, on its entries.
use Rattle.std.specs.Prelude.{◌≡◌, ◌≤◌, ◌+◌, ℕ, zero, suc, Bool, true, false, if◌then◌else◌, List, [], ◌∷◌, length, Option, Some, None, option_map, refl, bytes_eq}
use Rattle.std.proofs.Common.{arith}
use Rattle.std.proofs.lemmas.Bool.{or_parts, or_from}
use mathlib.Core.Path.{ap, ◌∙◌, sym, subst}
use Rattle.sj_text_core.specs.Keep.{is_seen}
use Rattle.sj_text_core.proofs.Texts.{bytes_eq-sym}
use Rattle.sj_object.specs.Texts.{no_repeats}
use Rattle.sj_object.specs.inner.Texts.{not_and, not_and_of}
use Rattle.sj_object.specs.Entries.{Entry, entry_texts}
use Rattle.sj_object.specs.HashMap.{Contents}
use Rattle.sj_object.specs.Index.{buckets_for, HasRoom, HasRoom-more}

module _ {K V : Type 0} where
  -- the value of the first entry with the text
  abbrev pub lookup : List ℕ → List (Entry K V) → Option V
  lookup k [] = None
  lookup k (e ∷ es) = if bytes_eq k e.0.1 then Some e.1 else lookup k es

  -- where the first entry with the text stands, counted from 0
  abbrev pub position : List ℕ → List (Entry K V) → Option ℕ
  position k [] = None
  position k (e ∷ es) = if bytes_eq k e.0.1 then Some 0 else option_map suc (position k es)

  -- the first entry with the text has the value w; its key stays
  abbrev pub set_value : List ℕ → V → List (Entry K V) → List (Entry K V)
  set_value k w [] = []
  set_value k w (e ∷ es) = if bytes_eq k e.0.1 then (e.0, w) ∷ es else e ∷ set_value k w es

  -- so too, and where no entry has the key's text, the key and w go last
  abbrev pub put_entry : K × List ℕ → V → List (Entry K V) → List (Entry K V)
  put_entry q w [] = (q, w) ∷ []
  put_entry q w (e ∷ es) = if bytes_eq q.1 e.0.1 then (e.0, w) ∷ es else e ∷ put_entry q w es

  -- without the first entry with the text
  abbrev pub cut_entry : List ℕ → List (Entry K V) → List (Entry K V)
  cut_entry k [] = []
  cut_entry k (e ∷ es) = if bytes_eq k e.0.1 then es else e ∷ cut_entry k es

  texts-if : (b : Bool) (e : Entry K V) (w : V) (es fs : List (Entry K V)) → entry_texts fs ≡ entry_texts es → entry_texts (if b then (e.0, w) ∷ es else e ∷ fs) ≡ e.0.1 ∷ entry_texts es
  texts-if b e w es fs h = elim b as (λ c. entry_texts (if c then (e.0, w) ∷ es else e ∷ fs) ≡ e.0.1 ∷ entry_texts es) [ true ↦ refl | _ ↦ ap (λ l. e.0.1 ∷ l) h ]

  length-if : (b : Bool) (e : Entry K V) (w : V) (es fs : List (Entry K V)) → length fs ≡ length es → length (if b then (e.0, w) ∷ es else e ∷ fs) ≡ suc (length es)
  length-if b e w es fs h = elim b as (λ c. length (if c then (e.0, w) ∷ es else e ∷ fs) ≡ suc (length es)) [ true ↦ refl | _ ↦ ap suc h ]

  pub length-set_value : (k : List ℕ) (w : V) (es : List (Entry K V)) → length (set_value k w es) ≡ length es
  length-set_value k w [] = refl
  length-set_value k w (e ∷ es) = length-if (bytes_eq k e.0.1) e w es (set_value k w es) (length-set_value k w es)

  pub texts-set_value : (k : List ℕ) (w : V) (es : List (Entry K V)) → entry_texts (set_value k w es) ≡ entry_texts es
  texts-set_value k w [] = refl
  texts-set_value k w (e ∷ es) = texts-if (bytes_eq k e.0.1) e w es (set_value k w es) (texts-set_value k w es)

-- the map with w in the place of the value at the text
abbrev pub with_value : {K V S : Type 0} → Contents K V S → List ℕ → V → Contents K V S
with_value m k w = record { entries = set_value k w m.entries; hasher = m.hasher; buckets = m.buckets; distinct = ap no_repeats (texts-set_value k w m.entries) ∙ m.distinct; room = subst (λ n. HasRoom n m.buckets) (sym (length-set_value k w m.entries)) m.room }

module _ {K V : Type 0} where
  -- the value of the i-th entry
  abbrev pub nth_value : ℕ → List (Entry K V) → Option V
  nth_value i [] = None
  nth_value zero (e ∷ es) = Some e.1
  nth_value (suc i) (e ∷ es) = nth_value i es

  -- the i-th entry has the value w; its key stays
  abbrev pub set_value_at : ℕ → V → List (Entry K V) → List (Entry K V)
  set_value_at i w [] = []
  set_value_at zero w (e ∷ es) = (e.0, w) ∷ es
  set_value_at (suc i) w (e ∷ es) = e ∷ set_value_at i w es

  pub texts-set_value_at : (i : ℕ) (w : V) (es : List (Entry K V)) → entry_texts (set_value_at i w es) ≡ entry_texts es
  texts-set_value_at i w [] = refl
  texts-set_value_at zero w (e ∷ es) = refl
  texts-set_value_at (suc i) w (e ∷ es) = ap (λ l. e.0.1 ∷ l) (texts-set_value_at i w es)

  pub length-set_value_at : (i : ℕ) (w : V) (es : List (Entry K V)) → length (set_value_at i w es) ≡ length es
  length-set_value_at i w [] = refl
  length-set_value_at zero w (e ∷ es) = refl
  length-set_value_at (suc i) w (e ∷ es) = ap suc (length-set_value_at i w es)

  pub length-put : (q : K × List ℕ) (w : V) (es : List (Entry K V)) → length (put_entry q w es) ≤ length es + 1
  length-put q w [] = omega arith
  length-put q w (e ∷ es) = by_test (bytes_eq q.1 e.0.1) (length-put q w es) where
    by_test : (b : Bool) → length (put_entry q w es) ≤ length es + 1 → length (if b then (e.0, w) ∷ es else e ∷ put_entry q w es) ≤ length (e ∷ es) + 1
    by_test true h = omega arith
    by_test false h = omega (arith, h)

  unseen-put : (x : List ℕ) (q : K × List ℕ) (w : V) (es : List (Entry K V)) → bytes_eq x q.1 ≡ false → is_seen x (entry_texts es) ≡ false → is_seen x (entry_texts (put_entry q w es)) ≡ false
  unseen-put x q w [] n u = or_from _ _ n refl
  unseen-put x q w (e ∷ es) n u = let r = or_parts (bytes_eq x e.0.1) _ u in by_test (bytes_eq q.1 e.0.1) r.0 (unseen-put x q w es n r.1) where
    by_test : (b : Bool) → bytes_eq x e.0.1 ≡ false → is_seen x (entry_texts (put_entry q w es)) ≡ false → is_seen x (entry_texts (if b then (e.0, w) ∷ es else e ∷ put_entry q w es)) ≡ false
    by_test true r m = u
    by_test false r m = or_from _ _ r m

  pub no_repeats-put : (q : K × List ℕ) (w : V) (es : List (Entry K V)) → no_repeats (entry_texts es) ≡ true → no_repeats (entry_texts (put_entry q w es)) ≡ true
  no_repeats-put q w [] d = refl
  no_repeats-put q w (e ∷ es) d = let n = not_and (is_seen e.0.1 (entry_texts es)) _ d in by_test (bytes_eq q.1 e.0.1) refl n.0 (no_repeats-put q w es n.1) where
    by_test : (b : Bool) → bytes_eq q.1 e.0.1 ≡ b → is_seen e.0.1 (entry_texts es) ≡ false → no_repeats (entry_texts (put_entry q w es)) ≡ true → no_repeats (entry_texts (if b then (e.0, w) ∷ es else e ∷ put_entry q w es)) ≡ true
    by_test true h u m = d
    by_test false h u m = not_and_of _ _ (unseen-put e.0.1 q w es (bytes_eq-sym q.1 e.0.1 h) u) m

-- the map with w in the place of the i-th value
abbrev pub with_value_at : {K V S : Type 0} → Contents K V S → ℕ → V → Contents K V S
with_value_at m i w = record { entries = set_value_at i w m.entries; hasher = m.hasher; buckets = m.buckets; distinct = ap no_repeats (texts-set_value_at i w m.entries) ∙ m.distinct; room = subst (λ n. HasRoom n m.buckets) (sym (length-set_value_at i w m.entries)) m.room }

-- the map after an insert
abbrev pub with_entry : {K V S : Type 0} → Contents K V S → K × List ℕ → V → Contents K V S
with_entry m q w = record { entries = put_entry q w m.entries; hasher = m.hasher; buckets = buckets_for (length (put_entry q w m.entries)) m.buckets; distinct = no_repeats-put q w m.entries m.distinct; room = HasRoom-more (length (put_entry q w m.entries)) (length m.entries) m.buckets (length-put q w m.entries) m.room }
