-- Members of two objects of tapes, compared.
use Rattle.std.proofs.Common.{◌≡◌, ℕ, zero, suc, ◌+◌, ◌≤◌, Bool, true, false, ◌||◌, List, [], ◌∷◌, length, take, drop, Option, Some, None, is_some, option_map, IsTrue, refl, sym, ap, ◌∙◌, subst, arith, true≢false, bytes_eq}
use Rattle.std.proofs.lemmas.Slice.Eq.{bytes_eq-Decides}
use Rattle.sj_text_core.specs.Tree.{Tree, null, boolean, int, text, list, obj, Items, no_items, item, items_len, Members, no_members, member, members_len, members_from, depth, members_depth, listed, paired}
use Rattle.sj_text_core.specs.Find.{find_member}
use Rattle.sj_text_core.specs.Keep.{is_seen}
use Rattle.sj_text_core.specs.Same.{Same}
use Rattle.sj_text_core.specs.Agree.{is_seen_before, pair_keys}
use Rattle.sj_text_core.specs.inner.Agree.{HasTexts, Agree}
use Rattle.sj_text_core.proofs.Comparing.{by_either, not_found, not_there, agree_repeat, agree_found, agree_in_step, texts_in_step, not_same_absent, same_first, same_first_in_step, all_agree, same_in_step, not_same_extra}
use Rattle.sj_text_core.proofs.Shapes.{members_from-paired}
use Rattle.sj_text_core.proofs.Texts.{bytes_eq-self}
use Rattle.sj_tape.specs.Value.{as_scalar}

-- a scalar is its tree
pub scalar_is : (t u : Tree) → Some u ≡ as_scalar t → t ≡ u
scalar_is null u e = cc
scalar_is (boolean b) u e = cc
scalar_is (int n c) u e = cc
scalar_is (text s) u e = cc
scalar_is (list is) u e = cc
scalar_is (obj ms) u e = cc

pub length-listed : (is : Items) → length (listed is) ≡ items_len is
length-listed no_items = refl
length-listed (item t is) = ap (λ n. suc n) (length-listed is)

pub length-paired : (ms : Members) → length (paired ms) ≡ members_len ms
length-paired no_members = refl
length-paired (member k t ms) = ap (λ n. suc n) (length-paired ms)

pub none_left : {A : Type 0} (xs ys : List A) → xs ≡ [] → length xs ≡ length ys → ys ≡ []
none_left xs [] e f = refl
none_left xs (y ∷ ys) e f = absurd (omega (arith, f, ap (λ (l : List _). length l) e))

-- a place that has a pair is within the list
pub place_within : {A : Type 0} (n : ℕ) (xs : List A) (x : A) (rest : List A) → drop n xs ≡ x ∷ rest → n + 1 ≤ length xs
place_within zero [] x rest e = cc
place_within zero (y ∷ xs) x rest e = omega arith
place_within (suc n) [] x rest e = cc
place_within (suc n) (y ∷ xs) x rest e = omega (arith, place_within n xs x rest e)

pub drop_next : {A : Type 0} (n : ℕ) (xs : List A) (x : A) (rest : List A) → drop n xs ≡ x ∷ rest → drop (n + 1) xs ≡ rest
drop_next zero [] x rest e = cc
drop_next zero (y ∷ xs) x rest e = cc
drop_next (suc n) [] x rest e = cc
drop_next (suc n) (y ∷ xs) x rest e = let next : suc n + 1 ≡ suc (n + 1) = omega arith in ap (λ m. drop m (y ∷ xs)) next ∙ drop_next n xs x rest e

snd_same : (p q : List ℕ × Tree) (ps qs : List (List ℕ × Tree)) → p ∷ ps ≡ q ∷ qs → p.1 ≡ q.1
snd_same p q ps qs e = let f : p ≡ q = cc in ap (λ (p : List ℕ × Tree). p.1) f

-- what a list of members has at a place is less deep than an object of them
pub pair_within : (n : ℕ) (ms : Members) (k : List ℕ) (t : Tree) (rest : List (List ℕ × Tree)) → drop n (paired ms) ≡ (k, t) ∷ rest → depth t ≤ members_depth ms
pair_within zero no_members k t rest e = cc
pair_within zero (member l u ms) k t rest e = omega (arith, ap depth (snd_same (l, u) (k, t) (paired ms) rest e))
pair_within (suc n) no_members k t rest e = cc
pair_within (suc n) (member l u ms) k t rest e = omega (arith, pair_within n ms k t rest e)

-- objects by their lists of pairs
pub from_pairs : (ms ns : Members) → Same (obj (members_from (paired ms))) (obj (members_from (paired ns))) → Same (obj ms) (obj ns)
from_pairs ms ns h = subst (λ ms. Same (obj ms) (obj ns)) (members_from-paired ms) (subst (λ ns. Same (obj (members_from (paired ms))) (obj ns)) (members_from-paired ns) h)

pub to_pairs : (ms ns : Members) → Same (obj ms) (obj ns) → Same (obj (members_from (paired ms))) (obj (members_from (paired ns)))
to_pairs ms ns h = subst (λ ms. Same (obj ms) (obj (members_from (paired ns)))) (sym (members_from-paired ms)) (subst (λ ns. Same (obj ms) (obj ns)) (sym (members_from-paired ns)) h)

either : (b x y : Bool) → (b || x) ≡ true → (x ≡ true → y ≡ true) → (b || y) ≡ true
either true x y e f = refl
either false x y e f = f e

-- what is before a place is before a later one
before_later : (n m : ℕ) (k : List ℕ) (ps : List (List ℕ × Tree)) → n ≤ m → is_seen_before n k ps ≡ true → is_seen_before m k ps ≡ true
before_later zero m k ps h e = cc
before_later (suc n) zero k ps h e = absurd (omega (arith, h))
before_later (suc n) (suc m) k [] h e = e
before_later (suc n) (suc m) k (p ∷ ps) h e = either (bytes_eq k p.0) (is_seen_before n k ps) (is_seen_before m k ps) e (before_later n m k ps (omega (arith, h)))

pub agree_less : (n m : ℕ) (ps qs : List (List ℕ × Tree)) → n ≤ m → Agree m ps qs → Agree n ps qs
agree_less n m ps qs h a = λ k e. a k (before_later n m k ps h e)

seen_before : (n : ℕ) (k : List ℕ) (ps : List (List ℕ × Tree)) → is_seen k (pair_keys (take n ps)) ≡ true → is_seen k (pair_keys ps) ≡ true
seen_before zero k ps e = cc
seen_before (suc n) k [] e = e
seen_before (suc n) k (p ∷ ps) e = either (bytes_eq k p.0) (is_seen k (pair_keys (take n ps))) (is_seen k (pair_keys ps)) e (seen_before n k ps)

either_seen : (n : ℕ) (k : List ℕ) (ps : List (List ℕ × Tree)) (P : Type 0) → is_seen k (pair_keys ps) ≡ true → (is_seen k (pair_keys (take n ps)) ≡ true → P) → (is_seen k (drop n (pair_keys ps)) ≡ true → P) → P
either_seen zero k ps P e f g = g e
either_seen (suc n) k [] P e f g = f e
either_seen (suc n) k (p ∷ ps) P e f g = by (bytes_eq k p.0) (is_seen k (pair_keys ps)) (is_seen k (pair_keys (take n ps))) e f (λ h i. either_seen n k ps P h i g) where
  by : (b x y : Bool) → (b || x) ≡ true → ((b || y) ≡ true → P) → (x ≡ true → (y ≡ true → P) → P) → P
  by true x y e f h = f refl
  by false x y e f h = h e f

-- texts in step are in both
pub has_rest : (n : ℕ) (ps qs : List (List ℕ × Tree)) (ks : List (List ℕ)) → pair_keys (take n ps) ≡ pair_keys (take n qs) → ks ≡ pair_keys qs → ((k : List ℕ) → is_seen k (drop n ks) ≡ true → is_seen k (pair_keys ps) ≡ true) → HasTexts ps qs
has_rest n ps qs ks w e h = λ k s. either_seen n k qs _ s (λ b. seen_before n k ps (ap (is_seen k) w ∙ b)) (λ b. h k (ap (λ ks. is_seen k (drop n ks)) e ∙ b))

-- a key that is found is there
pub has_key : (k : List ℕ) (ms : Members) → (find_member k ms ≡ None → ⊥) → is_seen k (pair_keys (paired ms)) ≡ true
has_key k ms h = by_either (is_seen k (pair_keys (paired ms))) _ (λ b. b) (λ b. absurd (h (ap (find_member k) (sym (members_from-paired ms)) ∙ not_found k (paired ms) b)))

-- a key that is not found is not there
pub has_not_key : (k : List ℕ) (ms : Members) → find_member k ms ≡ None → is_seen k (pair_keys (paired ms)) ≡ true → ⊥
has_not_key k ms e h = true≢false (sym h ∙ not_there k (paired ms) (ap (find_member k) (members_from-paired ms) ∙ e))

-- one key more that is there
pub key_there : (k l : List ℕ) (ks rest : List (List ℕ)) (n : ℕ) (ps : List (List ℕ × Tree)) → ks ≡ l ∷ rest → n ≤ 0 → is_seen l (pair_keys ps) ≡ true → ((k : List ℕ) → is_seen k (drop n rest) ≡ true → is_seen k (pair_keys ps) ≡ true)
    → is_seen k (drop n ks) ≡ true → is_seen k (pair_keys ps) ≡ true
key_there k l ks rest zero ps e z f h s = by (bytes_eq k l) (is_seen k rest) refl (ap (is_seen k) (sym e) ∙ s) where
  by : (b x : Bool) → bytes_eq k l ≡ b → (b || is_seen k rest) ≡ true → is_seen k (pair_keys ps) ≡ true
  by true x d s = ap (λ k. is_seen k (pair_keys ps)) ((bytes_eq-Decides k l).0 d) ∙ f
  by false x d s = h k s
key_there k l ks rest (suc n) ps e z f h s = absurd (omega (arith, z))

-- the first key ahead is among those ahead
pub key_ahead : (k : List ℕ) (ks rest : List (List ℕ)) → ks ≡ k ∷ rest → is_seen k ks ≡ true
key_ahead k ks rest e = ap (is_seen k) e ∙ (λ i. bytes_eq-self k i || is_seen k rest)

-- one that is ahead of the next is ahead
pub seen_ahead : (k l : List ℕ) (ks rest : List (List ℕ)) → ks ≡ l ∷ rest → is_seen k rest ≡ true → is_seen k ks ≡ true
seen_ahead k l ks rest e s = ap (is_seen k) e ∙ (λ i. bytes_eq k l || s i) ∙ or_yes (bytes_eq k l) where
  or_yes : (b : Bool) → (b || true) ≡ true
  or_yes true = refl
  or_yes false = refl

-- whether a lookup answered a value
pub no_value : {V : Type 0} (tree : V → Tree) (o : Option V) (f : Option Tree) → is_some o ≡ false → option_map tree o ≡ f → f ≡ None
no_value tree None f e g = sym g
no_value tree (Some v) f e g = cc

pub a_value : {V : Type 0} (tree : V → Tree) (o : Option V) (f : Option Tree) → is_some o ≡ true → option_map tree o ≡ f → f ≡ None → ⊥
a_value tree None f e g h = cc
a_value tree (Some v) f e g h = cc

module _ (n : ℕ) (k : List ℕ) (t : Tree) (ms ns : Members) (ahead rest : List (List ℕ × Tree)) (at : drop n (paired ms) ≡ ahead) (steps : ahead ≡ (k, t) ∷ rest) where
  here : drop n (paired ms) ≡ (k, t) ∷ rest
  here = at ∙ steps

  next : suc n ≡ n + 1
  next = omega arith

  -- a first pair that the other has not
  pub differ_absent : is_seen_before n k (paired ms) ≡ false → find_member k ns ≡ None → Same (obj ms) (obj ns) → ⊥
  differ_absent b f h = not_same_absent n k t (paired ms) (paired ns) rest here b (ap (find_member k) (members_from-paired ns) ∙ f) (to_pairs ms ns h)

  -- a first pair, and what the other has
  pub same_found : (u : Tree) → is_seen_before n k (paired ms) ≡ false → find_member k ns ≡ Some u → Same (obj ms) (obj ns) → Same t u
  same_found u b f h = same_first n k t u (paired ms) (paired ns) rest here b (ap (find_member k) (members_from-paired ns) ∙ f) (to_pairs ms ns h)

  pub further_repeat : is_seen_before n k (paired ms) ≡ true → Agree n (paired ms) (paired ns) → Agree (n + 1) (paired ms) (paired ns)
  further_repeat b a = subst (λ m. Agree m (paired ms) (paired ns)) next (agree_repeat n k t (paired ms) (paired ns) rest here b a)

  pub further_found : (u : Tree) → is_seen_before n k (paired ms) ≡ false → find_member k ns ≡ Some u → Same t u → Agree n (paired ms) (paired ns) → Agree (n + 1) (paired ms) (paired ns)
  further_found u b f s a = subst (λ m. Agree m (paired ms) (paired ns)) next (agree_found n k t u (paired ms) (paired ns) rest here b (ap (find_member k) (members_from-paired ns) ∙ f) s a)

  module _ (l : List ℕ) (u : Tree) (others more : List (List ℕ × Tree)) (also : drop n (paired ns) ≡ others) (shows : others ≡ (l, u) ∷ more) (b : Bool) (asked : b ≡ bytes_eq k l) (yes : b ≡ true)
      (w : pair_keys (take n (paired ms)) ≡ pair_keys (take n (paired ns))) where
    one_key : l ≡ k
    one_key = sym ((bytes_eq-Decides k l).0 (sym asked ∙ yes))

    there : drop n (paired ns) ≡ (k, u) ∷ more
    there = also ∙ shows ∙ ap (λ l. (l, u) ∷ more) one_key

    -- pairs of one text in one place, which is their first
    pub same_here : is_seen_before n k (paired ms) ≡ false → Same (obj ms) (obj ns) → Same t u
    same_here f h = same_first_in_step n k t u (paired ms) (paired ns) rest more here there w f (to_pairs ms ns h)

    pub further_in_step : Same t u → Agree n (paired ms) (paired ns) → Agree (n + 1) (paired ms) (paired ns)
    further_in_step s a = subst (λ m. Agree m (paired ms) (paired ns)) next (agree_in_step n k t u (paired ms) (paired ns) rest more here there w s a)

    pub texts_further : pair_keys (take (n + 1) (paired ms)) ≡ pair_keys (take (n + 1) (paired ns))
    texts_further = subst (λ m. pair_keys (take m (paired ms)) ≡ pair_keys (take m (paired ns))) next (texts_in_step n k t u (paired ms) (paired ns) rest more here there w)

-- both ended in step
pub same_at_end : (n : ℕ) (ms ns : Members) (ahead others : List (List ℕ × Tree)) → drop n (paired ms) ≡ ahead → ahead ≡ [] → drop n (paired ns) ≡ others → others ≡ [] → pair_keys (take n (paired ms)) ≡ pair_keys (take n (paired ns))
    → Agree n (paired ms) (paired ns) → Same (obj ms) (obj ns)
same_at_end n ms ns ahead others e f g h w a = from_pairs ms ns (same_in_step n (paired ms) (paired ns) (e ∙ f) (g ∙ h) w a)

-- all agree, and no key of the second is missing
pub same_if_has : (n : ℕ) (ms ns : Members) (ahead : List (List ℕ × Tree)) → drop n (paired ms) ≡ ahead → ahead ≡ [] → Agree n (paired ms) (paired ns) → HasTexts (paired ms) (paired ns) → Same (obj ms) (obj ns)
same_if_has n ms ns ahead e f a w = from_pairs ms ns (all_agree n (paired ms) (paired ns) (e ∙ f) a w)

pub has_if_same : (ms ns : Members) → Same (obj ms) (obj ns) → HasTexts (paired ms) (paired ns)
has_if_same ms ns h = λ k s. by_either (is_seen k (pair_keys (paired ms))) _ (λ b. b) (λ b. absurd (not_same_extra k (paired ms) (paired ns) s (not_found k (paired ms) b) (to_pairs ms ns h)))

-- what a test's answer says
pub allowed : (b : Bool) (P : Type 0) → (IsTrue b → P) × (P → IsTrue b) → b ≡ true → P
allowed b P h e = h.0 e

pub denied : (b : Bool) (P : Type 0) → (IsTrue b → P) × (P → IsTrue b) → b ≡ false → P → ⊥
denied b P h e p = true≢false (sym (h.1 p) ∙ e)
