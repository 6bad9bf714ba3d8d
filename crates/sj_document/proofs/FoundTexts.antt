-- What is found at texts, compared with the values of a map of std. No two of its keys are equal.
use Rattle.std.proofs.Common.{◌≡◌, ℕ, suc, ◌≤◌, Bool, true, false, ◌||◌, List, [], ◌∷◌, map, length, Option, Some, None, is_some, refl, sym, ap, ◌∙◌, subst, arith, true≢false, bytes_eq}
use Rattle.std.specs.Prelude.{MatchOption, if◌then◌else◌}
use Rattle.std.specs.Bool.{Decides}
use Rattle.std.specs.List.{IsDistinct, AllByRecursion}
use Rattle.std.proofs.lemmas.Slice.Eq.{bytes_eq-Decides}
use Rattle.std.proofs.lemmas.Bool.{or_parts, or_from}
use Rattle.sj_text_core.specs.Keep.{is_seen}
use Rattle.sj_text_core.proofs.Comparing.{by_either}
use Rattle.sj_text_core.proofs.Texts.{bytes_eq-self, bytes_eq-sym, ne_bytes_eq}
use Rattle.sj_object.specs.Texts.{no_repeats}
use Rattle.sj_object.specs.inner.Texts.{not_and, not_and_of}
use Rattle.sj_document.specs.SameWith.{SameIn, SameTexts, value_of_text}
use Rattle.sj_document.specs.inner.SameWith.{EachFound, HasKeys}
use Rattle.sj_document.proofs.Compared.{seen_by}
use Rattle.sj_document.proofs.Subsets.{Within, within_len, within_back}

-- keys that are no two equal have texts that are no two equal
not_equal : {L : Type 0} (text : L → List ℕ) (eq : L → L → Bool) → ((a b : L) → Decides (eq a b) (text a ≡ text b)) → (a b : L) → eq a b ≡ false → bytes_eq (text a) (text b) ≡ false
not_equal text eq law a b e = ne_bytes_eq (text a) (text b) (λ q. true≢false (sym ((law a b).1 q) ∙ e))

module _ {L X : Type 0} (text : L → List ℕ) where
  abbrev pub names : List (L × X) → List (List ℕ)
  names ps = map (λ (p : L × X). text p.0) ps

  names_len : (ps : List (L × X)) → length (names ps) ≡ length ps
  names_len [] = refl
  names_len (p ∷ ps) = ap (λ n. suc n) (names_len ps)

  -- a text has a value where it is that of a key
  named : (k : List ℕ) (ps : List (L × X)) → is_seen k (names ps) ≡ is_some (value_of_text text k ps)
  named k [] = refl
  named k (p ∷ ps) = by (bytes_eq k (text p.0)) (named k ps) where
    by : (b : Bool) → is_seen k (names ps) ≡ is_some (value_of_text text k ps) → (b || is_seen k (names ps)) ≡ is_some (if b then Some p.1 else value_of_text text k ps)
    by true h = refl
    by false h = h

  module _ (eq : L → L → Bool) (law : (a b : L) → Decides (eq a b) (text a ≡ text b)) where
    none_after : (a : L) (ps : List (L × X)) → AllByRecursion (λ y. eq a y ≡ false) (map (λ (p : L × X). p.0) ps) → is_seen (text a) (names ps) ≡ false
    none_after a [] h = refl
    none_after a (p ∷ ps) h = or_from (bytes_eq (text a) (text p.0)) (is_seen (text a) (names ps)) (not_equal text eq law a p.0 h.0) (none_after a ps h.1)

    pub names_apart : (ps : List (L × X)) → IsDistinct eq (map (λ (p : L × X). p.0) ps) → no_repeats (names ps) ≡ true
    unfolding IsDistinct
    names_apart [] h = refl
    names_apart (p ∷ ps) h = not_and_of (is_seen (text p.0) (names ps)) (no_repeats (names ps)) (none_after p.0 ps h.0) (names_apart ps h.1)

  abbrev EachValue : List (L × X) → List (L × X) → Type 0
  EachValue [] ps = Unit {0}
  EachValue (q ∷ qs) ps = (value_of_text text (text q.0) ps ≡ Some q.1) × EachValue qs ps

  behind : (p : L × X) (qs ps : List (L × X)) → is_seen (text p.0) (names qs) ≡ false → EachValue qs ps → EachValue qs (p ∷ ps)
  behind p [] ps n h = tt
  behind p (q ∷ qs) ps n h =
      let r = or_parts (bytes_eq (text p.0) (text q.0)) _ n in
      ((λ i. if bytes_eq-sym (text p.0) (text q.0) r.0 i then Some p.1 else value_of_text text (text q.0) ps) ∙ h.0, behind p qs ps r.1 h.1)

  each_value : (ps : List (L × X)) → no_repeats (names ps) ≡ true → EachValue ps ps
  each_value [] d = tt
  each_value (p ∷ ps) d =
      let n = not_and (is_seen (text p.0) (names ps)) _ d in
      ((λ i. if bytes_eq-self (text p.0) i then Some p.1 else value_of_text text (text p.0) ps), behind p ps ps n.0 (each_value ps n.1))

module _ {D L X : Type 0} (R : D → X → Type 0) (text : L → List ℕ) (find : List ℕ → Option D) where
  in_some : (a : Option D) (x : X) → SameIn R a (Some x) → MatchOption a ⊥ (λ d. R d x)
  in_some None x h = cc
  in_some (Some d) x h = h

  some_in : (a : Option D) (x : X) → MatchOption a ⊥ (λ d. R d x) → SameIn R a (Some x)
  some_in None x h = absurd h
  some_in (Some d) x h = h

  both_none : (a : Option D) → a ≡ None → SameIn R a None
  both_none None e = refl
  both_none (Some d) e = cc

  found_by : (k l : List ℕ) (x : X) (r : Option X) (b : Bool) → bytes_eq k l ≡ b → MatchOption (find l) ⊥ (λ d. R d x)
      → ((if b then Some x else r) ≡ None → find k ≡ None) → ((r ≡ None → find k ≡ None) → SameIn R (find k) r) → SameIn R (find k) (if b then Some x else r)
  found_by k l x r true d h n f = some_in (find k) x (subst (λ k. MatchOption (find k) ⊥ (λ d. R d x)) (sym ((bytes_eq-Decides k l).0 d)) h)
  found_by k l x r false d h n f = f n

  each_at : (k : List ℕ) (ps : List (L × X)) → EachFound R text find ps → (value_of_text text k ps ≡ None → find k ≡ None) → SameIn R (find k) (value_of_text text k ps)
  each_at k [] h n = both_none (find k) (n refl)
  each_at k (p ∷ ps) h n = found_by k (text p.0) p.1 (value_of_text text k ps) (bytes_eq k (text p.0)) refl h.0 n (λ n. each_at k ps h.1 n)

  each_from : (qs ps : List (L × X)) → EachValue text qs ps → SameTexts R text find ps → EachFound R text find qs
  each_from [] ps t h = tt
  each_from (q ∷ qs) ps t h = (in_some (find (text q.0)) q.1 (subst (SameIn R (find (text q.0))) t.0 (h (text q.0))), each_from qs ps t.1 h)

  -- the same at every text: each there
  pub each_from_same : (ps : List (L × X)) → no_repeats (names text ps) ≡ true → SameTexts R text find ps → EachFound R text find ps
  each_from_same ps d h = each_from ps ps (each_value text ps d) h

  is_there : (a : Option D) (x : X) → MatchOption a ⊥ (λ d. R d x) → is_some a ≡ true
  is_there None x h = absurd h
  is_there (Some d) x h = refl

  both_there : (a : Option D) (b : Option X) → SameIn R a b → is_some a ≡ true → is_some b ≡ true
  both_there None b h e = absurd (true≢false (sym e))
  both_there (Some d) None h e = absurd h
  both_there (Some d) (Some x) h e = refl

  is_none : (a : Option D) → is_some a ≡ false → a ≡ None
  is_none None e = refl
  is_none (Some d) e = absurd (true≢false e)

  -- where it is the texts ks at which something is found
  module _ (ks : List (List ℕ)) (law : (k : List ℕ) → is_some (find k) ≡ is_seen k ks) (ps : List (L × X)) where
    has_within : (qs : List (L × X)) → EachFound R text find qs → Within (names text qs) ks
    has_within [] h = λ x e. absurd (true≢false (sym e))
    has_within (q ∷ qs) h = λ x e. seen_by x (text q.0) (names text qs) ks (bytes_eq x (text q.0)) refl e (sym (law (text q.0)) ∙ is_there (find (text q.0)) q.1 h.0) (has_within qs h.1 x)

    none_at : (k : List ℕ) → HasKeys text ks ps → value_of_text text k ps ≡ None → find k ≡ None
    none_at k n e = by_either (is_seen k ks) _ (λ b. absurd (true≢false (sym (n k b) ∙ ap is_some e))) (λ b. is_none (find k) (law k ∙ b))

    -- each there, and no more texts: the same at every text
    pub same_from_each : EachFound R text find ps → HasKeys text ks ps → SameTexts R text find ps
    same_from_each h n = λ k. each_at k ps h (none_at k n)

    -- the same at every text: no more texts
    pub keys_from_same : SameTexts R text find ps → HasKeys text ks ps
    keys_from_same h = λ k e. both_there (find k) (value_of_text text k ps) (h k) (law k ∙ e)

    -- each there, and as many: no more texts
    pub keys_from_len : no_repeats (names text ps) ≡ true → length ks ≡ length ps → EachFound R text find ps → HasKeys text ks ps
    keys_from_len d e h = λ k s. sym (named text k ps) ∙ within_back (names text ps) ks d (names_len text ps ∙ sym e) (has_within ps h) k s

    -- each there, and no more texts: as many
    pub len_from_keys : no_repeats (names text ps) ≡ true → no_repeats ks ≡ true → EachFound R text find ps → HasKeys text ks ps → length ks ≡ length ps
    len_from_keys d f h n = omega (arith, more, fewer, names_len text ps) where
      more : length ks ≤ length (names text ps)
      more = within_len ks (names text ps) f (λ k s. named text k ps ∙ n k s)

      fewer : length (names text ps) ≤ length ks
      fewer = within_len (names text ps) ks d (has_within ps h)

    -- the same at every text: no fewer texts
    pub len_from_same : no_repeats (names text ps) ≡ true → SameTexts R text find ps → length ps ≤ length ks
    len_from_same d h = omega (arith, fewer, names_len text ps) where
      fewer : length (names text ps) ≤ length ks
      fewer = within_len (names text ps) ks d (has_within ps (each_from_same ps d h))
