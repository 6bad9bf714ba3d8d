-- Objects compared member by member, each a list of pairs.
use Rattle.std.proofs.Common.{◌≡◌, ℕ, zero, suc, Bool, true, false, ◌||◌, List, [], ◌∷◌, take, drop, Option, Some, None, refl, sym, ap, ◌∙◌, subst, bytes_eq, true≢false}
use Rattle.std.specs.Prelude.{if◌then◌else◌}
use Rattle.std.proofs.lemmas.Slice.Eq.{bytes_eq-Decides}
use Rattle.sj_text_core.specs.Tree.{Tree, obj, members_from}
use Rattle.sj_text_core.specs.Find.{find_member}
use Rattle.sj_text_core.specs.Keep.{is_seen}
use Rattle.sj_text_core.specs.Same.{Same}
use Rattle.sj_text_core.specs.Agree.{pair_keys, is_seen_before}
use Rattle.sj_text_core.specs.inner.Agree.{SameFound, Agree}
use Rattle.sj_text_core.proofs.Equality.{found_from_at, at_from_found}
use Rattle.sj_text_core.proofs.Texts.{bytes_eq-self}

abbrev Pairs : Type 0
Pairs = List (List ℕ × Tree)

abbrev pub found : List ℕ → Pairs → Option Tree
found k ps = find_member k (members_from ps)

-- what is the same has the same at every text, and the other way round
pub pointwise : (ps qs : Pairs) → Same (obj (members_from ps)) (obj (members_from qs)) → (k : List ℕ) → SameFound (found k ps) (found k qs)
pointwise ps qs h k = found_from_at k (members_from ps) (found k qs) (h k)

pub from_pointwise : (ps qs : Pairs) → ((k : List ℕ) → SameFound (found k ps) (found k qs)) → Same (obj (members_from ps)) (obj (members_from qs))
from_pointwise ps qs h = λ k. at_from_found k (members_from ps) (found k qs) (h k)

-- a text that none has is not found
pub absent_by : (b x : Bool) (t : Tree) (r : Option Tree) → (b || x) ≡ false → (x ≡ false → r ≡ None) → (if b then Some t else r) ≡ None
absent_by true x t r e h = cc
absent_by false x t r e h = h e

pub not_found : (k : List ℕ) (ps : Pairs) → is_seen k (pair_keys ps) ≡ false → found k ps ≡ None
not_found k [] e = refl
not_found k (p ∷ ps) e = absent_by (bytes_eq k p.0) (is_seen k (pair_keys ps)) p.1 (found k ps) e (not_found k ps)

pub there_by : (b x : Bool) (t : Tree) (r : Option Tree) → (if b then Some t else r) ≡ None → (r ≡ None → x ≡ false) → (b || x) ≡ false
there_by true x t r e h = cc
there_by false x t r e h = h e

pub not_there : (k : List ℕ) (ps : Pairs) → found k ps ≡ None → is_seen k (pair_keys ps) ≡ false
not_there k [] e = refl
not_there k (p ∷ ps) e = there_by (bytes_eq k p.0) (is_seen k (pair_keys ps)) p.1 (found k ps) e (not_there k ps)

first_by : (b x : Bool) (t u : Tree) (r : Option Tree) → (b || x) ≡ false → (x ≡ false → r ≡ Some u) → (if b then Some t else r) ≡ Some u
first_by true x t u r e h = cc
first_by false x t u r e h = h e

-- the first pair of a text is found
pub found_first : (n : ℕ) (k : List ℕ) (t : Tree) (ps rest : Pairs) → drop n ps ≡ (k, t) ∷ rest → is_seen_before n k ps ≡ false → found k ps ≡ Some t
found_first zero k t ps rest e f = ap (found k) e ∙ (λ i. if bytes_eq-self k i then Some t else found k rest)
found_first (suc n) k t [] rest e f = cc
found_first (suc n) k t (p ∷ ps) rest e f = first_by (bytes_eq k p.0) (is_seen_before n k ps) p.1 t (found k ps) f (found_first n k t ps rest e)

or_assoc : (a b c : Bool) → (a || (b || c)) ≡ ((a || b) || c)
or_assoc true b c = refl
or_assoc false b c = refl

or_nothing : (b : Bool) → (b || false) ≡ b
or_nothing true = refl
or_nothing false = refl

-- one pair more
pub before_next : (n : ℕ) (k l : List ℕ) (t : Tree) (ps rest : Pairs) → drop n ps ≡ (l, t) ∷ rest → is_seen_before (suc n) k ps ≡ (is_seen_before n k ps || bytes_eq k l)
before_next zero k l t [] rest e = cc
before_next zero k l t (p ∷ ps) rest e = let f : p ≡ (l, t) = cc in or_nothing (bytes_eq k p.0) ∙ ap (λ (p : List ℕ × Tree). bytes_eq k p.0) f
before_next (suc n) k l t [] rest e = cc
before_next (suc n) k l t (p ∷ ps) rest e = ap (λ b. bytes_eq k p.0 || b) (before_next n k l t ps rest e) ∙ or_assoc (bytes_eq k p.0) (is_seen_before n k ps) (bytes_eq k l)

next_by : (x b : Bool) (P : Type 0) → (x || b) ≡ true → (x ≡ true → P) → (x ≡ false → b ≡ true → P) → P
next_by true b P e f g = f refl
next_by false b P e f g = g refl e

same_some : (t u : Tree) (f g : Option Tree) → f ≡ Some t → g ≡ Some u → Same t u → SameFound f g
same_some t u f g e d s = subst (λ f. SameFound f g) (sym e) (subst (λ g. SameFound (Some t) g) (sym d) s)

-- a pair whose text was before
pub agree_repeat : (n : ℕ) (k : List ℕ) (t : Tree) (ps qs rest : Pairs) → drop n ps ≡ (k, t) ∷ rest → is_seen_before n k ps ≡ true → Agree n ps qs → Agree (suc n) ps qs
agree_repeat n k t ps qs rest e b a = λ l h.
    next_by (is_seen_before n l ps) (bytes_eq l k) _ (sym (before_next n l k t ps rest e) ∙ h) (λ x. a l x)
    (λ x y. a l (ap (λ l. is_seen_before n l ps) ((bytes_eq-Decides l k).0 y) ∙ b))

-- a first pair, where the other has the same
pub agree_found : (n : ℕ) (k : List ℕ) (t u : Tree) (ps qs rest : Pairs) → drop n ps ≡ (k, t) ∷ rest → is_seen_before n k ps ≡ false → found k qs ≡ Some u → Same t u → Agree n ps qs → Agree (suc n) ps qs
agree_found n k t u ps qs rest e b f s a = λ l h.
    next_by (is_seen_before n l ps) (bytes_eq l k) _ (sym (before_next n l k t ps rest e) ∙ h) (λ x. a l x)
    (λ x y. subst (λ l. SameFound (found l ps) (found l qs)) (sym ((bytes_eq-Decides l k).0 y)) (same_some t u _ _ (found_first n k t ps rest e b) f s))

-- by what a test answers
pub by_either : (b : Bool) (P : Type 0) → (b ≡ true → P) → (b ≡ false → P) → P
by_either true P f g = f refl
by_either false P f g = g refl

-- pairs of one text in one place
pub agree_in_step : (n : ℕ) (k : List ℕ) (t u : Tree) (ps qs rest more : Pairs) → drop n ps ≡ (k, t) ∷ rest → drop n qs ≡ (k, u) ∷ more → pair_keys (take n ps) ≡ pair_keys (take n qs) → Same t u → Agree n ps qs → Agree (suc n) ps qs
agree_in_step n k t u ps qs rest more e f w s a = by_either (is_seen_before n k ps) _
    (λ b. agree_repeat n k t ps qs rest e b a)
    (λ b. agree_found n k t u ps qs rest e b (found_first n k u qs more f (ap (is_seen k) (sym w) ∙ b)) s a)

pub texts_in_step : (n : ℕ) (k : List ℕ) (t u : Tree) (ps qs rest more : Pairs) → drop n ps ≡ (k, t) ∷ rest → drop n qs ≡ (k, u) ∷ more → pair_keys (take n ps) ≡ pair_keys (take n qs) → pair_keys (take (suc n) ps) ≡ pair_keys (take (suc n) qs)
texts_in_step zero k t u [] qs rest more e f w = cc
texts_in_step zero k t u (p ∷ ps) [] rest more e f w = cc
texts_in_step zero k t u (p ∷ ps) (q ∷ qs) rest more e f w = let g : p ≡ (k, t) = cc in let h : q ≡ (k, u) = cc in ap (λ (p : List ℕ × Tree). p.0 ∷ []) g ∙ sym (ap (λ (q : List ℕ × Tree). q.0 ∷ []) h)
texts_in_step (suc n) k t u [] qs rest more e f w = cc
texts_in_step (suc n) k t u (p ∷ ps) [] rest more e f w = cc
texts_in_step (suc n) k t u (p ∷ ps) (q ∷ qs) rest more e f w =
    let g : p.0 ≡ q.0 = cc in let h : pair_keys (take n ps) ≡ pair_keys (take n qs) = cc in
    (λ i. g i ∷ texts_in_step n k t u ps qs rest more e f h i)

unsame : (t : Tree) (f g : Option Tree) → f ≡ Some t → g ≡ None → SameFound f g → ⊥
unsame t f g e d h = subst (λ f. SameFound f None) e (subst (λ g. SameFound f g) d h)

unsame_some : (t u : Tree) (f g : Option Tree) → f ≡ Some t → g ≡ Some u → SameFound f g → Same t u
unsame_some t u f g e d h = subst (λ f. SameFound f (Some u)) e (subst (λ g. SameFound f g) d h)

-- a first pair that the other has not
pub not_same_absent : (n : ℕ) (k : List ℕ) (t : Tree) (ps qs rest : Pairs) → drop n ps ≡ (k, t) ∷ rest → is_seen_before n k ps ≡ false → found k qs ≡ None → Same (obj (members_from ps)) (obj (members_from qs)) → ⊥
not_same_absent n k t ps qs rest e b f h = unsame t _ _ (found_first n k t ps rest e b) f (pointwise ps qs h k)

-- a first pair, and what the other has
pub same_first : (n : ℕ) (k : List ℕ) (t u : Tree) (ps qs rest : Pairs) → drop n ps ≡ (k, t) ∷ rest → is_seen_before n k ps ≡ false → found k qs ≡ Some u → Same (obj (members_from ps)) (obj (members_from qs)) → Same t u
same_first n k t u ps qs rest e b f h = unsame_some t u _ _ (found_first n k t ps rest e b) f (pointwise ps qs h k)

-- pairs of one text in one place, which is their first
pub same_first_in_step : (n : ℕ) (k : List ℕ) (t u : Tree) (ps qs rest more : Pairs) → drop n ps ≡ (k, t) ∷ rest → drop n qs ≡ (k, u) ∷ more → pair_keys (take n ps) ≡ pair_keys (take n qs) → is_seen_before n k ps ≡ false
    → Same (obj (members_from ps)) (obj (members_from qs)) → Same t u
same_first_in_step n k t u ps qs rest more e f w b h = same_first n k t u ps qs rest e b (found_first n k u qs more f (ap (is_seen k) (sym w) ∙ b)) h

none_found : (f : Option Tree) → SameFound None f → f ≡ None
none_found f h = h

all_before : (n : ℕ) (k : List ℕ) (ps : Pairs) → drop n ps ≡ [] → is_seen_before n k ps ≡ is_seen k (pair_keys ps)
all_before zero k [] e = refl
all_before zero k (p ∷ ps) e = cc
all_before (suc n) k [] e = refl
all_before (suc n) k (p ∷ ps) e = ap (λ b. bytes_eq k p.0 || b) (all_before n k ps e)

-- every text has the same, where those of the second stand in the first
pub all_agree : (n : ℕ) (ps qs : Pairs) → drop n ps ≡ [] → Agree n ps qs → ((k : List ℕ) → is_seen k (pair_keys qs) ≡ true → is_seen k (pair_keys ps) ≡ true) → Same (obj (members_from ps)) (obj (members_from qs))
all_agree n ps qs e a w = from_pointwise ps qs (λ k. by_either (is_seen k (pair_keys ps)) _ (λ b. a k (all_before n k ps e ∙ b))
    (λ b. subst (λ f. SameFound f (found k qs)) (sym (not_found k ps b)) (not_found k qs (by_either (is_seen k (pair_keys qs)) _ (λ c. absurd (true≢false (sym (w k c) ∙ b))) (λ c. c)))))

take_all : (n : ℕ) (ps : Pairs) → drop n ps ≡ [] → take n ps ≡ ps
take_all zero [] e = refl
take_all zero (p ∷ ps) e = cc
take_all (suc n) [] e = refl
take_all (suc n) (p ∷ ps) e = ap (λ l. p ∷ l) (take_all n ps e)

-- both ended in step
pub same_in_step : (n : ℕ) (ps qs : Pairs) → drop n ps ≡ [] → drop n qs ≡ [] → pair_keys (take n ps) ≡ pair_keys (take n qs) → Agree n ps qs → Same (obj (members_from ps)) (obj (members_from qs))
same_in_step n ps qs e f w a =
    let t : pair_keys ps ≡ pair_keys qs = ap pair_keys (sym (take_all n ps e)) ∙ w ∙ ap pair_keys (take_all n qs f) in
    all_agree n ps qs e a (λ k b. ap (is_seen k) t ∙ b)

-- a text of the second that the first has not
pub not_same_extra : (k : List ℕ) (ps qs : Pairs) → is_seen k (pair_keys qs) ≡ true → found k ps ≡ None → Same (obj (members_from ps)) (obj (members_from qs)) → ⊥
not_same_extra k ps qs b f h =
    let g : found k qs ≡ None = none_found (found k qs) (subst (λ f. SameFound f (found k qs)) f (pointwise ps qs h k)) in
    true≢false (sym b ∙ not_there k qs g)
