-- Lists of texts stay without repeats.
use Rattle.std.proofs.Common.{◌≡◌, ℕ, zero, suc, take, Bool, true, false, List, [], ◌∷◌, ◌++◌, refl, ap, ◌∙◌, bytes_eq}
use Rattle.std.specs.Bool.{if◌then◌else◌}
use Rattle.std.proofs.lemmas.Bool.{or_parts, or_from}
use Rattle.sj_text_core.specs.Keep.{is_seen}
use Rattle.sj_text_core.proofs.Texts.{bytes_eq-sym}
use Rattle.sj_object.specs.Texts.{no_repeats}
use Rattle.sj_object.specs.inner.Texts.{not_and, not_and_of}
use Rattle.sj_object.specs.Entries.{Entry, entry_texts, entries_of}
use Rattle.sj_object.specs.Edits.{cut_entry}

is_seen-last : (x k : List ℕ) (ts : List (List ℕ)) → is_seen x ts ≡ false → bytes_eq x k ≡ false → is_seen x (ts ++ k ∷ []) ≡ false
is_seen-last x k [] h e = or_from _ _ e refl
is_seen-last x k (t ∷ ts) h e = let r = or_parts (bytes_eq x t) _ h in or_from _ _ r.0 (is_seen-last x k ts r.1 e)

pub no_repeats-last : (k : List ℕ) (ts : List (List ℕ)) → no_repeats ts ≡ true → is_seen k ts ≡ false → no_repeats (ts ++ k ∷ []) ≡ true
no_repeats-last k [] d h = refl
no_repeats-last k (t ∷ ts) d h =
    let n = not_and (is_seen t ts) _ d in
    let r = or_parts (bytes_eq k t) _ h in
    not_and_of _ _ (is_seen-last t k ts n.0 (bytes_eq-sym k t r.0)) (no_repeats-last k ts n.1 r.1)

pub texts-append : {K V : Type 0} (es fs : List (Entry K V)) → entry_texts (es ++ fs) ≡ entry_texts es ++ entry_texts fs
texts-append [] fs = refl
texts-append (e ∷ es) fs = ap (λ l. e.0.1 ∷ l) (texts-append es fs)

pub entries_of-append : {K V : Type 0} (t : K → List ℕ) (ps qs : List (K × V)) → entries_of t (ps ++ qs) ≡ entries_of t ps ++ entries_of t qs
entries_of-append t [] qs = refl
entries_of-append t (p ∷ ps) qs = ap (λ l. ((p.0, t p.0), p.1) ∷ l) (entries_of-append t ps qs)

is_seen-take : (x : List ℕ) (m : ℕ) (ts : List (List ℕ)) → is_seen x ts ≡ false → is_seen x (take m ts) ≡ false
is_seen-take x zero ts h = refl
is_seen-take x (suc m) [] h = refl
is_seen-take x (suc m) (t ∷ ts) h = let r = or_parts (bytes_eq x t) _ h in or_from _ _ r.0 (is_seen-take x m ts r.1)

pub no_repeats-take : (m : ℕ) (ts : List (List ℕ)) → no_repeats ts ≡ true → no_repeats (take m ts) ≡ true
no_repeats-take zero ts d = refl
no_repeats-take (suc m) [] d = refl
no_repeats-take (suc m) (t ∷ ts) d = let n = not_and (is_seen t ts) _ d in not_and_of _ _ (is_seen-take t m ts n.0) (no_repeats-take m ts n.1)

pub texts-take : {K V : Type 0} (t : K → List ℕ) (m : ℕ) (ps : List (K × V)) → entry_texts (entries_of t (take m ps)) ≡ take m (entry_texts (entries_of t ps))
texts-take t zero ps = refl
texts-take t (suc m) [] = refl
texts-take t (suc m) (p ∷ ps) = ap (λ l. t p.0 ∷ l) (texts-take t m ps)

-- where a push was done, or was refused
pub no_repeats-push : {K V : Type 0} (t : K → List ℕ) (ps qs : List (K × V)) (b : Bool) (k : K) (v : V)
    → no_repeats (entry_texts (entries_of t ps)) ≡ true → is_seen (t k) (entry_texts (entries_of t ps)) ≡ false → qs ≡ (if b then ps ++ (k, v) ∷ [] else ps)
    → no_repeats (entry_texts (entries_of t qs)) ≡ true
no_repeats-push t ps qs true k v d h e = ap (λ l. no_repeats (entry_texts (entries_of t l))) e
    ∙ ap no_repeats (ap entry_texts (entries_of-append t ps ((k, v) ∷ [])) ∙ texts-append (entries_of t ps) _)
    ∙ no_repeats-last (t k) (entry_texts (entries_of t ps)) d h
no_repeats-push t ps qs false k v d h e = ap (λ l. no_repeats (entry_texts (entries_of t l))) e ∙ d

module _ {K V : Type 0} (k : List ℕ) where
  is_seen-cut_by : (b : Bool) (x : List ℕ) (e : Entry K V) (es : List (Entry K V)) → is_seen x (entry_texts (e ∷ es)) ≡ false → is_seen x (entry_texts (cut_entry k es)) ≡ false → is_seen x (entry_texts (if b then es else e ∷ cut_entry k es)) ≡ false
  is_seen-cut_by true x e es h m = (or_parts (bytes_eq x e.0.1) _ h).1
  is_seen-cut_by false x e es h m = or_from _ _ (or_parts (bytes_eq x e.0.1) _ h).0 m

  is_seen-cut : (x : List ℕ) (es : List (Entry K V)) → is_seen x (entry_texts es) ≡ false → is_seen x (entry_texts (cut_entry k es)) ≡ false
  is_seen-cut x [] h = h
  is_seen-cut x (e ∷ es) h = is_seen-cut_by (bytes_eq k e.0.1) x e es h (is_seen-cut x es (or_parts (bytes_eq x e.0.1) _ h).1)

  no_repeats-cut_by : (b : Bool) (e : Entry K V) (es : List (Entry K V)) → no_repeats (entry_texts (e ∷ es)) ≡ true → no_repeats (entry_texts (cut_entry k es)) ≡ true → no_repeats (entry_texts (if b then es else e ∷ cut_entry k es)) ≡ true
  no_repeats-cut_by true e es d m = (not_and (is_seen e.0.1 (entry_texts es)) _ d).1
  no_repeats-cut_by false e es d m = not_and_of _ _ (is_seen-cut e.0.1 es (not_and (is_seen e.0.1 (entry_texts es)) _ d).0) m

  pub no_repeats-cut : (es : List (Entry K V)) → no_repeats (entry_texts es) ≡ true → no_repeats (entry_texts (cut_entry k es)) ≡ true
  no_repeats-cut [] d = d
  no_repeats-cut (e ∷ es) d = no_repeats-cut_by (bytes_eq k e.0.1) e es d (no_repeats-cut es (not_and (is_seen e.0.1 (entry_texts es)) _ d).1)
