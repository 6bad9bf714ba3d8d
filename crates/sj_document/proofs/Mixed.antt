-- A part of a tape and a document, compared.
use Rattle.std.proofs.Common.{◌≡◌, ℕ, suc, zero, ◌+◌, ◌-◌, ◌<◌, ◌≤◌, Bool, true, false, ◌||◌, List, [], ◌∷◌, length, map, take, drop, get_or, drop-cons, Some, None, option_map, refl, sym, ap, ◌∙◌, subst, arith, true≢false, bytes_eq}
use Rattle.std.proofs.lemmas.List.{drop_all, nil_from_length}
use Rattle.std.proofs.lemmas.Slice.Eq.{bytes_eq-Decides}
use Rattle.std.proofs.lemmas.Bool.{or_from, or_right}
use Rattle.sj_text_core.specs.Tree.{Tree, list, Items, items_len, items_from, listed, Members, paired}
use Rattle.sj_text_core.specs.Find.{find_member}
use Rattle.sj_text_core.specs.Keep.{is_seen}
use Rattle.sj_text_core.specs.Repeats.{SameBy}
use Rattle.sj_text_core.specs.Same.{Same, SameItems}
use Rattle.sj_text_core.specs.Agree.{pair_keys, is_seen_before}
use Rattle.sj_text_core.specs.declared.repeats.Repeats.{Repeats}
use Rattle.sj_text_core.specs.declared.repeats.Repeats.TheVariants.{First}
use Rattle.sj_text_core.proofs.Comparing.{found_first}
use Rattle.sj_text_core.proofs.Shapes.{same_items_len, members_from-paired}
use Rattle.sj_tape.proofs.Counted.{parts, part_items, items_by, one_place}
use Rattle.sj_object.specs.Texts.{no_repeats}
use Rattle.sj_object.specs.inner.Texts.{not_and}
use Rattle.sj_object.specs.Entries.{Entry, entry_texts}
use Rattle.sj_object.specs.Edits.{lookup}
use Rattle.sj_object.specs.Members.{entry_members}
use Rattle.sj_object.proofs.Shown.{lookup-entry_members}
use Rattle.sj_document.proofs.Arrays.{length-items}

-- an array by what counts in each item, and one as it is
pub into_mixed : (c : Repeats) (is js : Items) → SameBy c First (list is) (list js) → SameItems (part_items (parts c (listed is))) js
into_mixed c is js h = subst (λ v. Same v (list js)) (items_by c is) h

pub from_mixed : (c : Repeats) (is js : Items) → SameItems (part_items (parts c (listed is))) js → SameBy c First (list is) (list js)
from_mixed c is js h = subst (λ v. Same v (list js)) (sym (items_by c is)) h

module _ {B : Type 0} (g : B → Tree) where
  pub lens_mixed : (is : Items) (ys : List B) → SameItems is (items_from (map g ys)) → items_len is ≡ length ys
  lens_mixed is ys h = same_items_len is _ h ∙ sym (length-items g ys)

  -- both at their end
  pub ended_mixed : (c : Repeats) (ts : List Tree) (i : ℕ) (ys : List B) → length ys ≤ i → length ts ≡ length (drop i ys) → SameItems (part_items (parts c ts)) (items_from (map g (drop i ys)))
  ended_mixed c ts i ys h e =
      let gone = drop_all i ys h in
      let none = nil_from_length ts (e ∙ ap (λ (l : List B). length l) gone) in
      subst (λ ts. SameItems (part_items (parts c ts)) (items_from (map g (drop i ys)))) (sym none) (ap (λ (l : List B). items_from (map g l)) gone)

  module _ (ahead next : List Tree) (x : Tree) (steps : ahead ≡ x ∷ next) (i : ℕ) (ys : List B) (y : B) (hy : i < length ys) (ey : y ≡ get_or ys i y) where
    abbrev Both : List Tree → List B → Type 0
    Both as' bs = SameItems (items_from as') (items_from (map g bs))

    front : drop i ys ≡ y ∷ drop (i + 1) ys
    front = let more : suc i ≡ i + 1 = omega arith in drop-cons ys i y hy ∙ ap (λ a. a ∷ drop (suc i) ys) (sym ey) ∙ ap (λ n. y ∷ drop n ys) more

    pub taken_mixed : Both ahead (drop i ys) → Same x (g y) × Both next (drop (i + 1) ys)
    taken_mixed h = subst (λ bs. Both (x ∷ next) bs) front (subst (λ as'. Both as' (drop i ys)) steps h)

    pub joined_mixed : Same x (g y) × Both next (drop (i + 1) ys) → Both ahead (drop i ys)
    joined_mixed h = subst (λ as'. Both as' (drop i ys)) (sym steps) (subst (λ bs. Both (x ∷ next) bs) (sym front) h)

    pub lens_next : length ahead ≡ length (drop i ys) → length next ≡ length (drop (i + 1) ys)
    lens_next e = omega (arith, e, ap (λ (l : List Tree). length l) steps, ap (λ (l : List B). length l) front)

pub texts_paired : {K V : Type 0} (f : V → Tree) (es : List (Entry K V)) → pair_keys (paired (entry_members f es)) ≡ entry_texts es
texts_paired f [] = refl
texts_paired f (e ∷ es) = ap (λ l. e.0.1 ∷ l) (texts_paired f es)

pub found_at : {K V : Type 0} (f : V → Tree) (k : List ℕ) (es : List (Entry K V)) (v : V) → Some v ≡ lookup k es → find_member k (entry_members f es) ≡ Some (f v)
found_at f k es v e = sym (lookup-entry_members f k es) ∙ ap (option_map f) (sym e)

pub absent_at : {K V : Type 0} (f : V → Tree) (k : List ℕ) (es : List (Entry K V)) → None ≡ lookup k es → find_member k (entry_members f es) ≡ None
absent_at f k es e = sym (lookup-entry_members f k es) ∙ ap (option_map f) (sym e)

pub drop_less : {A : Type 0} (n : ℕ) (xs : List A) (x : A) (rest : List A) → xs ≡ x ∷ rest → 0 < n → drop n xs ≡ drop (n - 1) rest
drop_less zero xs x rest e h = absurd (omega arith)
drop_less (suc n) xs x rest e h = let less : n ≡ suc n - 1 = omega arith in ap (drop (suc n)) e ∙ ap (λ m. drop m rest) less

at_place : (n : ℕ) (k : List ℕ) (u : Tree) (qs more : List (List ℕ × Tree)) → drop n qs ≡ (k, u) ∷ more → is_seen k (pair_keys qs) ≡ true
at_place zero k u [] more e = cc
at_place zero k u (q ∷ qs) more e = (λ j. (bytes_eq-Decides k q.0).1 same j || is_seen k (pair_keys qs)) where
  same : k ≡ q.0
  same = ap (λ (p : List ℕ × Tree). p.0) (sym (let f : q ≡ (k, u) = cc in f))
at_place (suc n) k u [] more e = cc
at_place (suc n) k u (q ∷ qs) more e = or_right (bytes_eq k q.0) (is_seen k (pair_keys qs)) (at_place n k u qs more e)

other_text : (k l : List ℕ) (ks : List (List ℕ)) (b : Bool) → bytes_eq k l ≡ b → is_seen k ks ≡ true → is_seen l ks ≡ false → b ≡ false
other_text k l ks true e h n = absurd (true≢false (sym h ∙ ap (λ x. is_seen x ks) ((bytes_eq-Decides k l).0 e) ∙ n))
other_text k l ks false e h n = refl

-- without repeats a text does not stand before its place
alone : (n : ℕ) (k : List ℕ) (u : Tree) (qs more : List (List ℕ × Tree)) → no_repeats (pair_keys qs) ≡ true → drop n qs ≡ (k, u) ∷ more → is_seen k (pair_keys (take n qs)) ≡ false
alone zero k u qs more d e = refl
alone (suc n) k u [] more d e = refl
alone (suc n) k u (q ∷ qs) more d e =
    let r = not_and (is_seen q.0 (pair_keys qs)) (no_repeats (pair_keys qs)) d in
    or_from (bytes_eq k q.0) _ (other_text k q.0 (pair_keys qs) (bytes_eq k q.0) refl (at_place n k u qs more e) r.0) (alone n k u qs more r.1 e)

-- nor in what is in step
pub first_here : (n : ℕ) (k l : List ℕ) (u : Tree) (ps qs others more : List (List ℕ × Tree)) (b : Bool) → drop n qs ≡ others → others ≡ (l, u) ∷ more → b ≡ bytes_eq k l → b ≡ true
    → pair_keys (take n ps) ≡ pair_keys (take n qs) → no_repeats (pair_keys qs) ≡ true → is_seen_before n k ps ≡ false
first_here n k l u ps qs others more b also shows asked holds w d =
    ap (is_seen k) w ∙ ap (λ x. is_seen x (pair_keys (take n qs))) ((bytes_eq-Decides k l).0 (sym asked ∙ holds)) ∙ alone n l u qs more d (also ∙ shows)

cons_same : (p q : List ℕ × Tree) (ps qs : List (List ℕ × Tree)) → p ∷ ps ≡ q ∷ qs → (p ≡ q) × (ps ≡ qs)
cons_same p q ps qs e = (cc, cc)

-- nor behind it
behind : (n : ℕ) (k : List ℕ) (u : Tree) (qs more : List (List ℕ × Tree)) → no_repeats (pair_keys qs) ≡ true → drop n qs ≡ (k, u) ∷ more → is_seen k (pair_keys more) ≡ false
behind zero k u [] more d e = cc
behind zero k u (q ∷ qs) more d e =
    let f = cons_same q (k, u) qs more e in
    let r = not_and (is_seen q.0 (pair_keys qs)) (no_repeats (pair_keys qs)) d in
    ap (λ k. is_seen k (pair_keys more)) (sym (ap (λ (p : List ℕ × Tree). p.0) f.0)) ∙ ap (λ ps. is_seen q.0 (pair_keys ps)) (sym f.1) ∙ r.0
behind (suc n) k u [] more d e = cc
behind (suc n) k u (q ∷ qs) more d e = behind n k u qs more (not_and (is_seen q.0 (pair_keys qs)) (no_repeats (pair_keys qs)) d).1 e

-- one place of two objects with the same texts in one order, none of them twice
module _ (ms ns : Members) (same : pair_keys (paired ms) ≡ pair_keys (paired ns)) (d : no_repeats (pair_keys (paired ns)) ≡ true) (n : ℕ) (k l : List ℕ) (t x : Tree) (ahead rest others more : List (List ℕ × Tree))
    (at : drop n (paired ms) ≡ ahead) (step : ahead ≡ (k, t) ∷ rest) (also : drop n (paired ns) ≡ others) (shows : others ≡ (l, x) ∷ more) where
  one : (k ≡ l) × (pair_keys rest ≡ pair_keys more)
  one = one_place ms ns same n k t ahead rest at step l x others more also shows

  pub last_here : is_seen k (pair_keys rest) ≡ false
  last_here = ap (is_seen k) one.1 ∙ ap (λ k. is_seen k (pair_keys more)) one.0 ∙ behind n l x (paired ns) more d (also ∙ shows)

  pub found_here : find_member k ns ≡ Some x
  found_here = ap (λ k. find_member k ns) one.0 ∙ ap (find_member l) (sym (members_from-paired ns)) ∙ found_first n l x (paired ns) more (also ∙ shows) (alone n l x (paired ns) more d (also ∙ shows))
