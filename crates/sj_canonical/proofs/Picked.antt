-- The members that count, each once, in the order of their texts.
use Rattle.std.proofs.Common.{◌≡◌, ℕ, Bool, true, false, List, [], ◌∷◌, ◌++◌, Option, Some, None, bytes_eq, IsUtf8, reverse, refl, sym, ap, ◌∙◌, subst, option_map, true≢false}
use Rattle.std.proofs.lemmas.List.{reverse-append}
use Rattle.std.proofs.lemmas.Slice.Eq.{bytes_eq-Decides}
use Rattle.std.specs.Option.{option_or}
use Rattle.std.specs.Prelude.{if◌then◌else◌}
use Rattle.sj_text_core.proofs.Single.{find-keep_by, single-keep_by}
use Rattle.sj_text_core.specs.Find.{find_member}
use Rattle.sj_text_core.specs.Keep.{keep_members, HasSingle}
use Rattle.sj_text_core.specs.Repeats.{find_member_by, find_last_member, keep_by, keep_last_values, put_all}
use Rattle.sj_text_core.specs.Tree.{Tree, obj, Members, no_members, member, members_from}
use Rattle.sj_text_core.specs.declared.repeats.Repeats.{Repeats}
use Rattle.sj_text_core.specs.declared.repeats.Repeats.TheVariants.{First, Last}
use Rattle.sj_text_core.proofs.Texts.{absent_parts}
use Rattle.sj_text_core.proofs.Equal.{found_head}
use Rattle.sj_tape.proofs.Counted.{absent_first}
use Rattle.sj_canonical.proofs.Alike.{find-canonical, strict-canonical}
use Rattle.sj_canonical.proofs.Ordered.{none_before-less, none_before-sort_in}
use Rattle.sj_canonical.proofs.Strict.{AllAfter, IsStrict, HasTexts, some_none, find-sort_in, one_strict}
use Rattle.sj_canonical.proofs.Texts.{order, tied}
use Rattle.sj_canonical.specs.Canonical.{is_before, sort_in, canonical, canonical_members, canonical_by, NoneBefore}
use Rattle.sj_canonical.specs.inner.Picks.{sorted_in, sorted, thinned_from, thinned, by_choice, picked, AreTexts}

abbrev Pairs : Type 0
Pairs = List (List ℕ × Tree)

-- what is found of a text

found_along : (k : List ℕ) (ps qs : Pairs) → find_member k (members_from (ps ++ qs)) ≡ option_or (find_member k (members_from ps)) (find_member k (members_from qs))
found_along k [] qs = refl
found_along k (p ∷ ps) qs = by_test (bytes_eq k p.0) (found_along k ps qs)
  where
    by_test : (b : Bool) → find_member k (members_from (ps ++ qs)) ≡ option_or (find_member k (members_from ps)) (find_member k (members_from qs))
        → (if b then Some p.1 else find_member k (members_from (ps ++ qs))) ≡ option_or (if b then Some p.1 else find_member k (members_from ps)) (find_member k (members_from qs))
    by_test true e = refl
    by_test false e = e

found_back : (k : List ℕ) (ps : Pairs) → find_member k (members_from (reverse ps)) ≡ find_last_member k (members_from ps)
found_back k [] = refl
found_back k (p ∷ ps) =
    ap (λ qs. find_member k (members_from qs)) (reverse-append (p ∷ []) ps) ∙ found_along k (reverse ps) (p ∷ []) ∙ ap (λ r. option_or r (if bytes_eq k p.0 then Some p.1 else None)) (found_back k ps)

pub found-choice : (c : Repeats) (k : List ℕ) (ps : Pairs) → find_member k (members_from (by_choice c ps)) ≡ find_member_by c k (members_from ps)
found-choice First k ps = refl
found-choice Last k ps = found_back k ps

members-sorted_in : (p : List ℕ × Tree) (qs : Pairs) → members_from (sorted_in p qs) ≡ sort_in p.0 p.1 (members_from qs)
members-sorted_in p [] = refl
members-sorted_in p (q ∷ qs) = by_test (is_before q.0 p.0) (members-sorted_in p qs)
  where
    by_test : (b : Bool) → members_from (sorted_in p qs) ≡ sort_in p.0 p.1 (members_from qs)
        → members_from (if b then q ∷ sorted_in p qs else p ∷ q ∷ qs) ≡ (if b then member q.0 q.1 (sort_in p.0 p.1 (members_from qs)) else member p.0 p.1 (member q.0 q.1 (members_from qs)))
    by_test true e = ap (member q.0 q.1) e
    by_test false e = refl

found-sorted : (k : List ℕ) (ps : Pairs) → find_member k (members_from (sorted ps)) ≡ find_member k (members_from ps)
found-sorted k [] = refl
found-sorted k (p ∷ ps) =
    ap (find_member k) (members-sorted_in p (sorted ps)) ∙ find-sort_in k p.0 p.1 (members_from (sorted ps)) ∙ ap (λ r. if bytes_eq k p.0 then Some p.1 else r) (found-sorted k ps)

found-thinned_from : (k : List ℕ) (p : List ℕ × Tree) (qs : Pairs) → find_member k (members_from (thinned_from p qs)) ≡ (if bytes_eq k p.0 then Some p.1 else find_member k (members_from qs))
found-thinned_from k p [] = refl
found-thinned_from k p (q ∷ qs) = by_test (bytes_eq q.0 p.0) refl (found-thinned_from k p qs) (found-thinned_from k q qs)
  where
    skips : (b d : Bool) → bytes_eq k p.0 ≡ b → bytes_eq k q.0 ≡ d → q.0 ≡ p.0 → (if b then Some p.1 else find_member k (members_from qs)) ≡ (if b then Some p.1 else if d then Some q.1 else find_member k (members_from qs))
    skips true d e f g = refl
    skips false true e f g = absurd (true≢false (sym ((bytes_eq-Decides k p.0).1 ((bytes_eq-Decides k q.0).0 f ∙ g)) ∙ e))
    skips false false e f g = refl

    by_test : (b : Bool) → bytes_eq q.0 p.0 ≡ b → find_member k (members_from (thinned_from p qs)) ≡ (if bytes_eq k p.0 then Some p.1 else find_member k (members_from qs))
        → find_member k (members_from (thinned_from q qs)) ≡ (if bytes_eq k q.0 then Some q.1 else find_member k (members_from qs))
        → find_member k (members_from (if b then thinned_from p qs else p ∷ thinned_from q qs)) ≡ (if bytes_eq k p.0 then Some p.1 else if bytes_eq k q.0 then Some q.1 else find_member k (members_from qs))
    by_test true e f g = f ∙ skips (bytes_eq k p.0) (bytes_eq k q.0) refl refl ((bytes_eq-Decides q.0 p.0).0 e)
    by_test false e f g = ap (λ r. if bytes_eq k p.0 then Some p.1 else r) g

found-thinned : (k : List ℕ) (ps : Pairs) → find_member k (members_from (thinned ps)) ≡ find_member k (members_from ps)
found-thinned k [] = refl
found-thinned k (p ∷ ps) = found-thinned_from k p ps

found-picked : (c : Repeats) (k : List ℕ) (ps : Pairs) → find_member k (members_from (picked c ps)) ≡ find_member_by c k (members_from ps)
found-picked c k ps = found-thinned k (sorted (by_choice c ps)) ∙ found-sorted k (by_choice c ps) ∙ found-choice c k ps

-- texts that are UTF-8

texts-tail : (p : List ℕ × Tree) (ps : Pairs) → AreTexts (p ∷ ps) → AreTexts ps
texts-tail p ps h k n = h k (λ e. n (absent_parts (bytes_eq k p.0) p.1 (find_member k (members_from ps)) e).1)

texts-head : (p : List ℕ × Tree) (ps : Pairs) → AreTexts (p ∷ ps) → IsUtf8 p.0
texts-head p ps h = h p.0 (λ e. some_none p.1 (sym (found_head p.0 p.1 (members_from ps)) ∙ e))

texts-second : (p q : List ℕ × Tree) (ps : Pairs) → AreTexts (p ∷ q ∷ ps) → AreTexts (p ∷ ps)
texts-second p q ps h k n = h k (λ e. n (by_test (bytes_eq k p.0) e))
  where
    by_test : (b : Bool) → (if b then Some p.1 else find_member k (members_from (q ∷ ps))) ≡ None → (if b then Some p.1 else find_member k (members_from ps)) ≡ None
    by_test true e = e
    by_test false e = (absent_parts (bytes_eq k q.0) q.1 (find_member k (members_from ps)) e).1

texts-sorted : (c : Repeats) (ps : Pairs) → AreTexts ps → AreTexts (sorted (by_choice c ps))
texts-sorted c ps h k n = h k (λ e. n (found-sorted k (by_choice c ps) ∙ found-choice c k ps ∙ absent_first c k (members_from ps) e))

texts_from : (ms : Members) → ((k : List ℕ) → (find_member k ms ≡ None → ⊥) → IsUtf8 k) → HasTexts ms
texts_from no_members h = tt {0}
texts_from (member k t ms) h =
    (h k (λ e. some_none t (sym (found_head k t ms) ∙ e)), texts_from ms (λ l n. h l (λ e. n (absent_parts (bytes_eq l k) t (find_member l ms) e).1)))

-- the order

abbrev Rises : Members → Type 0
Rises no_members = Unit {0}
Rises (member k t ms) = NoneBefore k ms × Rises ms

rises-sort_in : (k : List ℕ) (t : Tree) (ms : Members) → Rises ms → Rises (sort_in k t ms)
rises-sort_in k t no_members h = (tt {0}, tt {0})
rises-sort_in k t (member l u ms) h = by_test (is_before l k) refl (rises-sort_in k t ms h.1)
  where
    by_test : (b : Bool) → is_before l k ≡ b → Rises (sort_in k t ms) → Rises (if b then member l u (sort_in k t ms) else member k t (member l u ms))
    by_test true e r = (none_before-sort_in l k t ms (order.one_way l k e) h.0, r)
    by_test false e r = ((e, none_before-less k l ms e h.0), h)

rises-sorted : (ps : Pairs) → Rises (members_from (sorted ps))
rises-sorted [] = tt {0}
rises-sorted (p ∷ ps) = subst Rises (sym (members-sorted_in p (sorted ps))) (rises-sort_in p.0 p.1 (members_from (sorted ps)) (rises-sorted ps))

far : (j k l : List ℕ) → is_before j k ≡ true → is_before l k ≡ false → is_before j l ≡ true
far j k l e f = by_test (is_before j l) refl
  where
    by_test : (b : Bool) → is_before j l ≡ b → is_before j l ≡ true
    by_test true g = g
    by_test false g = absurd (true≢false (sym e ∙ order.chain j l k g f))

all_after : (j k : List ℕ) (ms : Members) → is_before j k ≡ true → NoneBefore k ms → AllAfter j ms
all_after j k no_members e h = tt {0}
all_after j k (member l t ms) e h = (far j k l e h.0, all_after j k ms e h.1)

all_after-thinned_from : (k : List ℕ) (p : List ℕ × Tree) (qs : Pairs) → is_before k p.0 ≡ true → AllAfter k (members_from qs) → AllAfter k (members_from (thinned_from p qs))
all_after-thinned_from k p [] e h = (e, tt {0})
all_after-thinned_from k p (q ∷ qs) e h = by_test (bytes_eq q.0 p.0) (all_after-thinned_from k p qs e h.1) (all_after-thinned_from k q qs h.0 h.1)
  where
    by_test : (b : Bool) → AllAfter k (members_from (thinned_from p qs)) → AllAfter k (members_from (thinned_from q qs)) → AllAfter k (members_from (if b then thinned_from p qs else p ∷ thinned_from q qs))
    by_test true r s = r
    by_test false r s = (e, s)

-- neighbours that differ are in order
before_next : (p q : List ℕ) → IsUtf8 p → IsUtf8 q → bytes_eq q p ≡ false → is_before q p ≡ false → is_before p q ≡ true
before_next p q u v e f = by_test (is_before p q) refl
  where
    by_test : (b : Bool) → is_before p q ≡ b → is_before p q ≡ true
    by_test true g = g
    by_test false g = absurd (true≢false (sym ((bytes_eq-Decides q p).1 (sym (tied p q u v g f))) ∙ e))

strict-thinned_from : (p : List ℕ × Tree) (qs : Pairs) → AreTexts (p ∷ qs) → NoneBefore p.0 (members_from qs) → Rises (members_from qs) → IsStrict (members_from (thinned_from p qs))
strict-thinned_from p [] h n r = (tt {0}, tt {0})
strict-thinned_from p (q ∷ qs) h n r =
    by_test (bytes_eq q.0 p.0) refl (strict-thinned_from p qs (texts-second p q qs h) n.1 r.1) (strict-thinned_from q qs (texts-tail p (q ∷ qs) h) r.0 r.1)
  where
    by_test : (b : Bool) → bytes_eq q.0 p.0 ≡ b → IsStrict (members_from (thinned_from p qs)) → IsStrict (members_from (thinned_from q qs)) → IsStrict (members_from (if b then thinned_from p qs else p ∷ thinned_from q qs))
    by_test true e f g = f
    by_test false e f g =
        let next = before_next p.0 q.0 (texts-head p (q ∷ qs) h) (texts-head q qs (texts-tail p (q ∷ qs) h)) e n.0 in
        (all_after-thinned_from p.0 q qs next (all_after p.0 q.0 (members_from qs) next r.0), g)

strict-thinned : (ps : Pairs) → AreTexts ps → Rises (members_from ps) → IsStrict (members_from (thinned ps))
strict-thinned [] h r = tt {0}
strict-thinned (p ∷ ps) h r = strict-thinned_from p ps h r.0 r.1

strict-picked : (c : Repeats) (ps : Pairs) → AreTexts ps → IsStrict (members_from (picked c ps))
strict-picked c ps h = strict-thinned (sorted (by_choice c ps)) (texts-sorted c ps h) (rises-sorted (by_choice c ps))

-- the members that stand so, each value in canonical form
abbrev pub valued : Repeats → Pairs → Members
valued c [] = no_members
valued c (p ∷ ps) = member p.0 (canonical_by c p.1) (valued c ps)

all_after-valued : (c : Repeats) (k : List ℕ) (ps : Pairs) → AllAfter k (members_from ps) → AllAfter k (valued c ps)
all_after-valued c k [] h = tt {0}
all_after-valued c k (p ∷ ps) h = (h.0, all_after-valued c k ps h.1)

strict-valued : (c : Repeats) (ps : Pairs) → IsStrict (members_from ps) → IsStrict (valued c ps)
strict-valued c [] h = tt {0}
strict-valued c (p ∷ ps) h = (all_after-valued c p.0 ps h.0, strict-valued c ps h.1)

found-valued : (c : Repeats) (k : List ℕ) (ps : Pairs) → find_member k (valued c ps) ≡ option_map (canonical_by c) (find_member k (members_from ps))
found-valued c k [] = refl
found-valued c k (p ∷ ps) = by_test (bytes_eq k p.0) (found-valued c k ps)
  where
    by_test : (b : Bool) → find_member k (valued c ps) ≡ option_map (canonical_by c) (find_member k (members_from ps))
        → (if b then Some (canonical_by c p.1) else find_member k (valued c ps)) ≡ option_map (canonical_by c) (if b then Some p.1 else find_member k (members_from ps))
    by_test true e = refl
    by_test false e = e

-- the members that are kept of an object
abbrev kept : Repeats → Members → Members
kept First ms = keep_members [] ms
kept Last ms = put_all no_members (keep_last_values ms)

kept-obj : (c : Repeats) (ms : Members) → keep_by c (obj ms) ≡ obj (kept c ms)
kept-obj First ms = refl
kept-obj Last ms = refl

found-kept : (c : Repeats) (k : List ℕ) (ms : Members) → find_member k (kept c ms) ≡ option_map (keep_by c) (find_member_by c k ms)
found-kept First k ms = find-keep_by First k (obj ms)
found-kept Last k ms = find-keep_by Last k (obj ms)

single-kept : (c : Repeats) (ms : Members) → HasSingle (kept c ms)
single-kept First ms = single-keep_by First (obj ms)
single-kept Last ms = single-keep_by Last (obj ms)

texts-kept : (c : Repeats) (ps : Pairs) → AreTexts ps → HasTexts (kept c (members_from ps))
texts-kept c ps h = texts_from (kept c (members_from ps)) (λ k n. h k (λ e. n (found-kept c k (members_from ps) ∙ ap (option_map (keep_by c)) (absent_first c k (members_from ps) e))))

mapped_twice : (c : Repeats) (r : Option Tree) → option_map canonical (option_map (keep_by c) r) ≡ option_map (canonical_by c) r
mapped_twice c None = refl
mapped_twice c (Some t) = refl

kept-picked : (c : Repeats) (ps : Pairs) → AreTexts ps → canonical_members (kept c (members_from ps)) ≡ valued c (picked c ps)
kept-picked c ps h =
    let ms = members_from ps in
    one_strict (canonical_members (kept c ms)) (valued c (picked c ps)) (strict-canonical (kept c ms) (texts-kept c ps h) (single-kept c ms)) (strict-valued c (picked c ps) (strict-picked c ps h))
    (λ k. find-canonical k (kept c ms) ∙ ap (option_map canonical) (found-kept c k ms) ∙ mapped_twice c (find_member_by c k ms)
    ∙ sym (found-valued c k (picked c ps) ∙ ap (option_map (canonical_by c)) (found-picked c k ps)))

-- an object in canonical form has those members
pub picked-canonical : (c : Repeats) (ps : Pairs) → AreTexts ps → canonical_by c (obj (members_from ps)) ≡ obj (valued c (picked c ps))
picked-canonical c ps h = ap canonical (kept-obj c (members_from ps)) ∙ ap obj (kept-picked c ps h)

-- what is collected is texts

pub texts-push : (ps : Pairs) (p : List ℕ × Tree) → AreTexts ps → IsUtf8 p.0 → AreTexts (ps ++ p ∷ [])
texts-push ps p h u k n = by_found (find_member k (members_from ps)) (bytes_eq k p.0) refl refl
  where
    by_found : (r : Option Tree) (b : Bool) → find_member k (members_from ps) ≡ r → bytes_eq k p.0 ≡ b → IsUtf8 k
    by_found (Some t) b e f = h k (λ g. some_none t (sym e ∙ g))
    by_found None true e f = subst IsUtf8 (sym ((bytes_eq-Decides k p.0).0 f)) u
    by_found None false e f = absurd (n (found_along k ps (p ∷ []) ∙ ap (λ r. option_or r (if bytes_eq k p.0 then Some p.1 else None)) e ∙ ap (λ b. if b then Some p.1 else None) f))
