-- A walk that keeps some pairs of a ring, and what holds of the pairs that it keeps.
use Rattle.std.proofs.Common.{◌≡◌, ◌≤◌, ℕ, ◌+◌, Bool, true, false, cond, bytes_eq, List, [], ◌∷◌, ◌++◌, length, refl, sym, ap, ◌∙◌, subst, arith}
use Rattle.std.specs.Bool.{if◌then◌else◌}
use Rattle.std.proofs.lemmas.List.{append_assoc, append-nil}
use Rattle.std.specs.Map.Calls.{RetainsPairs}
use Rattle.std.proofs.lemmas.Bool.{or_parts, or_from}
use Rattle.sj_text_core.specs.Keep.{is_seen}
use Rattle.sj_object.specs.Texts.{no_repeats}
use Rattle.sj_object.specs.inner.Texts.{not_and, not_and_of}
use Rattle.sj_object.specs.Entries.{entry_texts, entries_of}
use Rattle.sj_object.proofs.Hashed.{hashes}

module _ {F K V : Type 0} (T : F → K → V → Bool → V → F → Type 0) (first : F) (old : List (K × V)) where
  -- the pairs in front are still to be asked, by f, and those behind were kept
  pub record IsRetaining (f : F) (ring : List (K × V)) (left : ℕ) : Type 0 where
    pub rest : List (K × V)
    pub kept : List (K × V)
    pub parts : ring ≡ rest ++ kept
    pub count : length rest ≡ left
    pub onward : (zs : List (K × V)) → RetainsPairs T f rest zs → RetainsPairs T first old (kept ++ zs)

  pub asked_none : (left : ℕ) → left ≡ length old → IsRetaining first old left
  asked_none left e = record { rest = old; kept = []; parts = sym (append-nil old); count = sym e; onward = λ zs r. r }

  pub asked_all : (f : F) (ring : List (K × V)) (left : ℕ) (h : IsRetaining f ring left) → length h.rest ≡ 0 → RetainsPairs T first old ring
  asked_all f ring left h z = at h.rest z h.parts h.onward where
    at : (ps : List (K × V)) → length ps ≡ 0 → ring ≡ ps ++ h.kept → ((zs : List (K × V)) → RetainsPairs T f ps zs → RetainsPairs T first old (h.kept ++ zs)) → RetainsPairs T first old ring
    at [] l p o = subst (RetainsPairs T first old) (append-nil h.kept ∙ sym p) (o [] refl)
    at (x ∷ ps) l p o = absurd (omega (arith, l))

  -- the first pair was asked, and goes last where it is kept
  pub asked_one : (b : Bool) (f g : F) (k : K) (v w : V) (ring popped new : List (K × V)) (left : ℕ) → IsRetaining f ring left → ring ≡ (k, v) ∷ popped → T f k v b w g → new ≡ (if b then popped ++ (k, w) ∷ [] else popped)
      → (m : ℕ) → m + 1 ≡ left → IsRetaining g new m
  asked_one b f g k v w ring popped new left h e t n m q = at h.rest h.count h.parts h.onward b t n where
    at : (ps : List (K × V)) → length ps ≡ left → ring ≡ ps ++ h.kept → ((zs : List (K × V)) → RetainsPairs T f ps zs → RetainsPairs T first old (h.kept ++ zs)) → (c : Bool) → T f k v c w g → new ≡ (if c then popped ++ (k, w) ∷ [] else popped) → IsRetaining g new m
    at [] l p o c t n = absurd (omega (arith, l, q))
    at (x ∷ ps) l p o true t n =
        let same : (k, v) ∷ popped ≡ x ∷ (ps ++ h.kept) = sym e ∙ p in
        let head : (k, v) ≡ x = cc in
        let tail : popped ≡ ps ++ h.kept = cc in
        record {
          rest = ps;
          kept = h.kept ++ (k, w) ∷ [];
          parts = n ∙ ap (λ s. s ++ (k, w) ∷ []) tail ∙ append_assoc ps h.kept ((k, w) ∷ []);
          count = omega (arith, l, q);
          onward = λ zs r. subst (RetainsPairs T first old) (sym (append_assoc h.kept ((k, w) ∷ []) zs)) (o ((k, w) ∷ zs) (subst (λ y. RetainsPairs T f (y ∷ ps) ((k, w) ∷ zs)) head (true, w, g, zs, t, r, refl)));
        }
    at (x ∷ ps) l p o false t n =
        let same : (k, v) ∷ popped ≡ x ∷ (ps ++ h.kept) = sym e ∙ p in
        let head : (k, v) ≡ x = cc in
        let tail : popped ≡ ps ++ h.kept = cc in
        record {
          rest = ps;
          kept = h.kept;
          parts = n ∙ tail;
          count = omega (arith, l, q);
          onward = λ zs r. o zs (subst (λ y. RetainsPairs T f (y ∷ ps) zs) head (false, w, g, zs, t, r, refl));
        }

module _ {F K V : Type 0} (T : F → K → V → Bool → V → F → Type 0) where
  pub retained_fewer : (f : F) (ps qs : List (K × V)) → RetainsPairs T f ps qs → length qs ≤ length ps
  retained_fewer f [] qs r = omega (arith, ap length r)
  retained_fewer f (p ∷ ps) qs (b, w, g, rest, t, more, e) = at b e (retained_fewer g ps rest more) where
    at : (c : Bool) → qs ≡ cond c ((p.0, w) ∷ rest) rest → length rest ≤ length ps → length qs ≤ length (p ∷ ps)
    at true e l = omega (arith, ap length e, l)
    at false e l = omega (arith, ap length e, l)

module _ {F K V : Type 0} (T : F → K → V → Bool → V → F → Type 0) (t : K → List ℕ) where
  retained_unseen : (k : List ℕ) (f : F) (ps qs : List (K × V)) → RetainsPairs T f ps qs → is_seen k (entry_texts (entries_of t ps)) ≡ false → is_seen k (entry_texts (entries_of t qs)) ≡ false
  retained_unseen k f [] qs r u = ap (λ l. is_seen k (entry_texts (entries_of t l))) r
  retained_unseen k f (p ∷ ps) qs (b, w, g, rest, s, more, e) u = let parts = or_parts (bytes_eq k (t p.0)) _ u in at b e parts.0 (retained_unseen k g ps rest more parts.1) where
    at : (c : Bool) → qs ≡ cond c ((p.0, w) ∷ rest) rest → bytes_eq k (t p.0) ≡ false → is_seen k (entry_texts (entries_of t rest)) ≡ false → is_seen k (entry_texts (entries_of t qs)) ≡ false
    at true e n unseen = ap (λ l. is_seen k (entry_texts (entries_of t l))) e ∙ or_from _ _ n unseen
    at false e n unseen = ap (λ l. is_seen k (entry_texts (entries_of t l))) e ∙ unseen

  -- no two keys that are kept have one text
  pub retained_distinct : (f : F) (ps qs : List (K × V)) → RetainsPairs T f ps qs → no_repeats (entry_texts (entries_of t ps)) ≡ true → no_repeats (entry_texts (entries_of t qs)) ≡ true
  retained_distinct f [] qs r d = ap (λ l. no_repeats (entry_texts (entries_of t l))) r
  retained_distinct f (p ∷ ps) qs (b, w, g, rest, s, more, e) d =
      let parts = not_and (is_seen (t p.0) (entry_texts (entries_of t ps))) _ d in
      at b e (retained_unseen (t p.0) g ps rest more parts.0) (retained_distinct g ps rest more parts.1) where
        at : (c : Bool) → qs ≡ cond c ((p.0, w) ∷ rest) rest → is_seen (t p.0) (entry_texts (entries_of t rest)) ≡ false → no_repeats (entry_texts (entries_of t rest)) ≡ true → no_repeats (entry_texts (entries_of t qs)) ≡ true
        at true e unseen distinct = ap (λ l. no_repeats (entry_texts (entries_of t l))) e ∙ not_and_of _ _ unseen distinct
        at false e unseen distinct = ap (λ l. no_repeats (entry_texts (entries_of t l))) e ∙ distinct

  -- where all are kept, so are their hashes
  pub retained_hashes : (H : List ℕ → ℕ) (f : F) (ps qs : List (K × V)) → RetainsPairs T f ps qs → length ps ≤ length qs → hashes t H qs ≡ hashes t H ps
  retained_hashes H f [] qs r l = ap (hashes t H) r
  retained_hashes H f (p ∷ ps) qs (b, w, g, rest, s, more, e) l = at b e (retained_fewer T g ps rest more) (retained_hashes H g ps rest more) where
    at : (c : Bool) → qs ≡ cond c ((p.0, w) ∷ rest) rest → length rest ≤ length ps → (length ps ≤ length rest → hashes t H rest ≡ hashes t H ps) → hashes t H qs ≡ hashes t H (p ∷ ps)
    at true e n same = ap (hashes t H) e ∙ ap (λ hs. H (t p.0) ∷ hs) (same (omega (arith, l, ap length e)))
    at false e n same = absurd (omega (arith, l, ap length e, n))
