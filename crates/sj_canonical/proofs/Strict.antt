-- Members in strict order: no text twice.
use Rattle.std.proofs.Common.{◌≡◌, ℕ, Bool, true, false, List, Option, Some, None, bytes_eq, IsUtf8, refl, sym, ap, ◌∙◌, subst, true≢false}
use Rattle.std.specs.Prelude.{if◌then◌else◌}
use Rattle.std.proofs.lemmas.Slice.Eq.{bytes_eq-Decides}
use Rattle.std.proofs.lemmas.Option.{same_Some}
use Rattle.sj_text_core.specs.Find.{find_member}
use Rattle.sj_text_core.specs.Print.{recarry_members}
use Rattle.sj_text_core.specs.Tree.{Tree, Members, no_members, member}
use Rattle.sj_text_core.proofs.Texts.{absent_parts}
use Rattle.sj_text_core.proofs.Equal.{found_head}
use Rattle.sj_canonical.specs.Canonical.{is_before, sort_in}
use Rattle.sj_canonical.proofs.Texts.{not_before_itself, before_far, tied}

-- one text is before all others
abbrev pub AllAfter : List ℕ → Members → Type 0
AllAfter k no_members = Unit {0}
AllAfter k (member l t ms) = (is_before k l ≡ true) × AllAfter k ms

abbrev pub IsStrict : Members → Type 0
IsStrict no_members = Unit {0}
IsStrict (member k t ms) = AllAfter k ms × IsStrict ms

-- the texts are UTF-8
abbrev pub HasTexts : Members → Type 0
HasTexts no_members = Unit {0}
HasTexts (member k t ms) = IsUtf8 k × HasTexts ms

pub some_none : (t : Tree) → Some t ≡ None → ⊥
some_none t e = cc

-- one text is not before itself
pub apart : (k l : List ℕ) → is_before k l ≡ true → bytes_eq k l ≡ false
apart k l e = by_test (bytes_eq k l) refl
  where
    by_test : (b : Bool) → bytes_eq k l ≡ b → bytes_eq k l ≡ false
    by_test true f = absurd (true≢false (sym e ∙ ap (is_before k) (sym ((bytes_eq-Decides k l).0 f)) ∙ not_before_itself k))
    by_test false f = f

-- the first of a text is what was put in front of the others
pub find-sort_in : (k l : List ℕ) (t : Tree) (ms : Members) → find_member k (sort_in l t ms) ≡ (if bytes_eq k l then Some t else find_member k ms)
find-sort_in k l t no_members = refl
find-sort_in k l t (member m u ms) = by_test (is_before m l) refl (find-sort_in k l t ms)
  where
    by_tests : (p q : Bool) → bytes_eq k m ≡ p → bytes_eq k l ≡ q → is_before m l ≡ true
        → (if p then Some u else if q then Some t else find_member k ms) ≡ (if q then Some t else if p then Some u else find_member k ms)
    by_tests true true e f b = absurd (true≢false (sym b ∙ ap (is_before m) (sym ((bytes_eq-Decides k l).0 f) ∙ (bytes_eq-Decides k m).0 e) ∙ not_before_itself m))
    by_tests true false e f b = refl
    by_tests false q e f b = refl

    by_test : (b : Bool) → is_before m l ≡ b → find_member k (sort_in l t ms) ≡ (if bytes_eq k l then Some t else find_member k ms)
        → find_member k (if b then member m u (sort_in l t ms) else member l t (member m u ms)) ≡ (if bytes_eq k l then Some t else if bytes_eq k m then Some u else find_member k ms)
    by_test true e f = ap (λ r. if bytes_eq k m then Some u else r) f ∙ by_tests (bytes_eq k m) (bytes_eq k l) refl refl e
    by_test false e f = refl

-- what is before one that is before all is before all
all_after-less : (j k : List ℕ) (ms : Members) → is_before j k ≡ true → AllAfter k ms → AllAfter j ms
all_after-less j k no_members e h = tt {0}
all_after-less j k (member l t ms) e h = (before_far j k l e h.0, all_after-less j k ms e h.1)

all_after-sort_in : (j k : List ℕ) (t : Tree) (ms : Members) → is_before j k ≡ true → AllAfter j ms → AllAfter j (sort_in k t ms)
all_after-sort_in j k t no_members e h = (e, tt {0})
all_after-sort_in j k t (member l u ms) e h = by_test (is_before l k) (all_after-sort_in j k t ms e h.1)
  where
    by_test : (b : Bool) → AllAfter j (sort_in k t ms) → AllAfter j (if b then member l u (sort_in k t ms) else member k t (member l u ms))
    by_test true r = (h.0, r)
    by_test false r = (e, h)

unequal : (k l : List ℕ) → bytes_eq k l ≡ false → k ≡ l → ⊥
unequal k l e f = true≢false (sym ((bytes_eq-Decides k l).1 f) ∙ e)

pub texts-sort_in : (k : List ℕ) (t : Tree) (ms : Members) → IsUtf8 k → HasTexts ms → HasTexts (sort_in k t ms)
texts-sort_in k t no_members u h = (u, tt {0})
texts-sort_in k t (member l v ms) u h = by_test (is_before l k) (texts-sort_in k t ms u h.1)
  where
    by_test : (b : Bool) → HasTexts (sort_in k t ms) → HasTexts (if b then member l v (sort_in k t ms) else member k t (member l v ms))
    by_test true r = (h.0, r)
    by_test false r = (u, h)

-- where its text is new, a member is sorted in
pub strict-sort_in : (k : List ℕ) (t : Tree) (ms : Members) → IsUtf8 k → HasTexts ms → IsStrict ms → find_member k ms ≡ None → IsStrict (sort_in k t ms)
strict-sort_in k t no_members u p r n = (tt {0}, tt {0})
strict-sort_in k t (member l v ms) u p r n =
    let new = absent_parts (bytes_eq k l) v (find_member k ms) n in
    by_test (is_before l k) (is_before k l) refl refl new.0 (strict-sort_in k t ms u p.1 r.1 new.1)
  where
    by_test : (b c : Bool) → is_before l k ≡ b → is_before k l ≡ c → bytes_eq k l ≡ false → IsStrict (sort_in k t ms) → IsStrict (if b then member l v (sort_in k t ms) else member k t (member l v ms))
    by_test true c e f d s = (all_after-sort_in l k t ms e r.0, s)
    by_test false true e f d s = ((f, all_after-less k l ms f r.0), r)
    by_test false false e f d s = absurd (unequal k l d (tied k l u p.0 f e))

pub all_after-recarry : (k : List ℕ) (ms : Members) → AllAfter k ms → AllAfter k (recarry_members ms)
all_after-recarry k no_members h = tt {0}
all_after-recarry k (member l t ms) h = (h.0, all_after-recarry k ms h.1)

pub strict-recarry : (ms : Members) → IsStrict ms → IsStrict (recarry_members ms)
strict-recarry no_members h = tt {0}
strict-recarry (member k t ms) h = (all_after-recarry k ms h.0, strict-recarry ms h.1)

skip : (b : Bool) (u : Tree) (r : Option Tree) → b ≡ false → (if b then Some u else r) ≡ r
skip true u r e = absurd (true≢false e)
skip false u r e = refl

-- what is before all is not there
none_after : (k : List ℕ) (ms : Members) → AllAfter k ms → find_member k ms ≡ None
none_after k no_members h = refl
none_after k (member l t ms) h = skip (bytes_eq k l) t (find_member k ms) (apart k l h.0) ∙ none_after k ms h.1

-- nor is what is before the first
none_before : (k l : List ℕ) (u : Tree) (ms : Members) → is_before k l ≡ true → AllAfter l ms → find_member k (member l u ms) ≡ None
none_before k l u ms e h = none_after k (member l u ms) (e, all_after-less k l ms e h)

-- what is found behind one is after it
found_after : (k l : List ℕ) (t : Tree) (ms : Members) → AllAfter l ms → find_member k ms ≡ Some t → is_before l k ≡ true
found_after k l t no_members h e = absurd (some_none t (sym e))
found_after k l t (member m u ms) h e = by_test (bytes_eq k m) refl e (λ f. found_after k l t ms h.1 f)
  where
    by_test : (b : Bool) → bytes_eq k m ≡ b → (if b then Some u else find_member k ms) ≡ Some t → (find_member k ms ≡ Some t → is_before l k ≡ true) → is_before l k ≡ true
    by_test true d e f = ap (is_before l) ((bytes_eq-Decides k m).0 d) ∙ h.0
    by_test false d e f = f e

tail_found : (x k : List ℕ) (t u : Tree) (ms ns : Members) → AllAfter k ms → AllAfter k ns → find_member x (member k t ms) ≡ find_member x (member k u ns) → find_member x ms ≡ find_member x ns
tail_found x k t u ms ns g h e = by_test (bytes_eq x k) refl e
  where
    by_test : (b : Bool) → bytes_eq x k ≡ b → (if b then Some t else find_member x ms) ≡ (if b then Some u else find_member x ns) → find_member x ms ≡ find_member x ns
    by_test true d e = ap (λ y. find_member y ms) ((bytes_eq-Decides x k).0 d) ∙ none_after k ms g ∙ sym (none_after k ns h) ∙ ap (λ y. find_member y ns) (sym ((bytes_eq-Decides x k).0 d))
    by_test false d e = e

-- members in strict order in which each text finds the same are one
pub one_strict : (ms ns : Members) → IsStrict ms → IsStrict ns → ((k : List ℕ) → find_member k ms ≡ find_member k ns) → ms ≡ ns
one_strict no_members no_members r s h = refl
one_strict no_members (member l u ns) r s h = absurd (some_none u (sym (h l ∙ found_head l u ns)))
one_strict (member k t ms) no_members r s h = absurd (some_none t (sym (found_head k t ms) ∙ h k))
one_strict (member k t ms) (member l u ns) r s h = by_tests (is_before k l) (is_before l k) refl refl (one_strict ms ns r.1)
  where
    head : (b : Bool) → bytes_eq k l ≡ b → is_before l k ≡ false → (if b then Some u else find_member k ns) ≡ Some t → (k ≡ l) × (t ≡ u)
    head true d f e = ((bytes_eq-Decides k l).0 d, sym (same_Some u t e))
    head false d f e = absurd (true≢false (sym (found_after k l t ns s.0 e) ∙ f))

    by_tests : (p q : Bool) → is_before k l ≡ p → is_before l k ≡ q → (IsStrict ns → ((k : List ℕ) → find_member k ms ≡ find_member k ns) → ms ≡ ns) → member k t ms ≡ member l u ns
    by_tests true q e f g = absurd (some_none t (sym (found_head k t ms) ∙ h k ∙ none_before k l u ns e s.0))
    by_tests false true e f g = absurd (some_none u (sym (found_head l u ns) ∙ sym (h l) ∙ none_before l k t ms f r.0))
    by_tests false false e f g =
        let same = head (bytes_eq k l) refl f (sym (h k) ∙ found_head k t ms) in
        let rest = g s.1 (λ x. tail_found x k t u ms ns r.0 (subst (λ y. AllAfter y ns) (sym same.0) s.0) (h x ∙ ap (λ y. find_member x (member y u ns)) (sym same.0))) in
        λ i. member (same.0 i) (same.1 i) (rest i)
