-- Parts compared by the members that count in them.
use Rattle.std.proofs.Common.{◌≡◌, ℕ, zero, suc, max, ◌≤◌, arith, Bool, true, false, ◌||◌, List, [], ◌∷◌, map, drop, Option, Some, None, option_map, if◌then◌else◌, bytes_eq, refl, sym, ap, ◌∙◌, subst, true≢false}
use Rattle.std.specs.Option.{option_or}
use Rattle.std.proofs.lemmas.List.{drop-map}
use Rattle.std.proofs.lemmas.Slice.Eq.{bytes_eq-Decides}
use Rattle.std.proofs.lemmas.Bool.{or_from}
use Rattle.sj_text_core.specs.Tree.{Tree, list, obj, depth, Items, no_items, item, items_len, items_from, listed, Members, no_members, member, members_depth, paired}
use Rattle.sj_text_core.specs.Find.{find_member}
use Rattle.sj_text_core.specs.Keep.{is_seen}
use Rattle.sj_text_core.specs.Same.{Same, SameItems}
use Rattle.sj_text_core.specs.Agree.{pair_keys}
use Rattle.sj_text_core.specs.inner.Agree.{SameFound, HasTexts}
use Rattle.sj_text_core.specs.Repeats.{SameBy, by_first, keep_last, keep_last_items, keep_last_values, put_all, find_last_member, find_member_by}
use Rattle.sj_text_core.specs.declared.repeats.Repeats.{Repeats}
use Rattle.sj_text_core.specs.declared.repeats.Repeats.TheVariants.{First, Last}
use Rattle.sj_text_core.proofs.Equality.{found_from_at, at_from_found, none_on}
use Rattle.sj_text_core.proofs.Comparing.{by_either, absent_by as first_none, there_by as none_first}
use Rattle.sj_text_core.proofs.Last.{find-keep_last}
use Rattle.sj_text_core.proofs.Shapes.{same_items_len}
use Rattle.sj_tape.specs.Members.{chosen_pairs}

-- parts of one choice
abbrev Part : Type 0
Part = Repeats × Tree

abbrev pub parts : Repeats → List Tree → List (Repeats × Tree)
parts c ts = map {B = Repeats × Tree} (λ t. (c, t)) ts

-- the items that parts stand for, each with what counts in it first
abbrev pub part_items : List Part → Items
part_items ps = items_from (map (λ (p : Repeats × Tree). by_first p.0 p.1) ps)

-- one item of each, and those behind
pub items_taken : (ps qs rest more : List Part) (p q : Part) → ps ≡ p ∷ rest → qs ≡ q ∷ more → SameItems (part_items ps) (part_items qs) → SameBy p.0 q.0 p.1 q.1 × SameItems (part_items rest) (part_items more)
items_taken ps qs rest more p q e f h = subst (λ qs. SameItems (part_items (p ∷ rest)) (part_items qs)) f (subst (λ ps. SameItems (part_items ps) (part_items qs)) e h)

pub items_joined : (ps qs rest more : List Part) (p q : Part) → ps ≡ p ∷ rest → qs ≡ q ∷ more → SameBy p.0 q.0 p.1 q.1 × SameItems (part_items rest) (part_items more) → SameItems (part_items ps) (part_items qs)
items_joined ps qs rest more p q e f h = subst (λ ps. SameItems (part_items ps) (part_items qs)) (sym e) (subst (λ qs. SameItems (part_items (p ∷ rest)) (part_items qs)) (sym f) h)

pub moved : (ps qs us vs : List Part) → ps ≡ us → qs ≡ vs → SameItems (part_items ps) (part_items qs) → SameItems (part_items us) (part_items vs)
moved ps qs us vs e f h = subst (λ ps. SameItems (part_items ps) (part_items vs)) e (subst (λ qs. SameItems (part_items ps) (part_items qs)) f h)

items_last : (is : Items) → keep_last_items is ≡ part_items (parts Last (listed is))
items_last no_items = refl
items_last (item t is) = ap (item (keep_last t)) (items_last is)

items_first : (is : Items) → is ≡ part_items (parts First (listed is))
items_first no_items = refl
items_first (item t is) = ap (item t) (items_first is)

pub items_by : (c : Repeats) (is : Items) → by_first c (list is) ≡ list (part_items (parts c (listed is)))
items_by First is = ap list (items_first is)
items_by Last is = ap list (items_last is)

-- arrays by what counts in each item
pub into_items : (c d : Repeats) (is js : Items) → SameBy c d (list is) (list js) → SameItems (part_items (parts c (listed is))) (part_items (parts d (listed js)))
into_items c d is js h =
    subst (λ v. Same (list (part_items (parts c (listed is)))) v) (items_by d js) (subst (λ v. Same v (by_first d (list js))) (items_by c is) h)

pub from_items : (c d : Repeats) (is js : Items) → SameItems (part_items (parts c (listed is))) (part_items (parts d (listed js))) → SameBy c d (list is) (list js)
from_items c d is js h =
    subst (λ v. Same v (by_first d (list js))) (sym (items_by c is)) (subst (λ v. Same (list (part_items (parts c (listed is)))) v) (sym (items_by d js)) h)

pub len_by : (c : Repeats) (is : Items) → items_len (part_items (parts c (listed is))) ≡ items_len is
len_by c no_items = refl
len_by c (item t is) = ap (λ n. suc n) (len_by c is)

-- arrays that are the same are equally long
pub lens_by : (c d : Repeats) (is js : Items) → SameBy c d (list is) (list js) → items_len is ≡ items_len js
lens_by c d is js h = sym (len_by c is) ∙ same_items_len (part_items (parts c (listed is))) (part_items (parts d (listed js))) (into_items c d is js h) ∙ len_by d js

-- the members whose first are those that count
abbrev firsts : Repeats → Members → Members
firsts First ms = ms
firsts Last ms = put_all no_members (keep_last_values ms)

by_firsts : (d : Repeats) (ms : Members) → by_first d (obj ms) ≡ obj (firsts d ms)
by_firsts First ms = refl
by_firsts Last ms = refl

map_same : (o : Option Tree) → o ≡ option_map (by_first First) o
map_same None = refl
map_same (Some t) = refl

find_firsts : (d : Repeats) (k : List ℕ) (ms : Members) → find_member k (firsts d ms) ≡ option_map (by_first d) (find_member_by d k ms)
find_firsts First k ms = map_same (find_member k ms)
find_firsts Last k ms = find-keep_last k (obj ms)

-- what counts at a text is absent in both, or the same
abbrev pub CountSame : Repeats → List ℕ → Members → Members → Type 0
CountSame d k ms ns = SameFound (option_map keep_last (find_last_member k ms)) (option_map (by_first d) (find_member_by d k ns))

pub each_counts : (d : Repeats) (ms ns : Members) → SameBy Last d (obj ms) (obj ns) → (k : List ℕ) → CountSame d k ms ns
each_counts d ms ns h k =
    let g : Same (obj (firsts Last ms)) (obj (firsts d ns)) = subst (λ v. Same (obj (firsts Last ms)) v) (by_firsts d ns) h in
    subst (λ o. SameFound o (option_map (by_first d) (find_member_by d k ns))) (find_firsts Last k ms)
    (subst (λ o. SameFound (find_member k (firsts Last ms)) o) (find_firsts d k ns) (found_from_at k (firsts Last ms) (find_member k (firsts d ns)) (g k)))

pub from_each : (d : Repeats) (ms ns : Members) → ((k : List ℕ) → CountSame d k ms ns) → SameBy Last d (obj ms) (obj ns)
from_each d ms ns h =
    subst (λ v. Same (obj (firsts Last ms)) v) (sym (by_firsts d ns))
    (λ k. at_from_found k (firsts Last ms) (find_member k (firsts d ns))
    (subst (λ o. SameFound (find_member k (firsts Last ms)) o) (sym (find_firsts d k ns))
    (subst (λ o. SameFound o (option_map (by_first d) (find_member_by d k ns))) (sym (find_firsts Last k ms)) (h k))))

last_none : (b x : Bool) (t : Tree) (r : Option Tree) → (b || x) ≡ false → (x ≡ false → r ≡ None) → option_or r (if b then Some t else None) ≡ None
last_none true x t r e h = cc
last_none false x t r e h = ap (λ r. option_or r None) (h e)

-- a text that none has is absent
pub absent_by : (d : Repeats) (k : List ℕ) (ms : Members) → is_seen k (pair_keys (paired ms)) ≡ false → find_member_by d k ms ≡ None
absent_by First k no_members e = refl
absent_by First k (member l t ms) e = first_none (bytes_eq k l) (is_seen k (pair_keys (paired ms))) t (find_member k ms) e (absent_by First k ms)
absent_by Last k no_members e = refl
absent_by Last k (member l t ms) e = last_none (bytes_eq k l) (is_seen k (pair_keys (paired ms))) t (find_last_member k ms) e (absent_by Last k ms)

none_last : (b x : Bool) (t : Tree) (r : Option Tree) → option_or r (if b then Some t else None) ≡ None → (r ≡ None → x ≡ false) → (b || x) ≡ false
none_last b x t (Some u) e h = cc
none_last true x t None e h = cc
none_last false x t None e h = h refl

pub unseen_by : (d : Repeats) (k : List ℕ) (ms : Members) → find_member_by d k ms ≡ None → is_seen k (pair_keys (paired ms)) ≡ false
unseen_by First k no_members e = refl
unseen_by First k (member l t ms) e = none_first (bytes_eq k l) (is_seen k (pair_keys (paired ms))) t (find_member k ms) e (unseen_by First k ms)
unseen_by Last k no_members e = refl
unseen_by Last k (member l t ms) e = none_last (bytes_eq k l) (is_seen k (pair_keys (paired ms))) t (find_last_member k ms) e (unseen_by Last k ms)

head_same : (p q : List ℕ × Tree) (ps qs : List (List ℕ × Tree)) → p ∷ ps ≡ q ∷ qs → p ≡ q
head_same p q ps qs e = cc

tail_same : (p q : List ℕ × Tree) (ps qs : List (List ℕ × Tree)) → p ∷ ps ≡ q ∷ qs → ps ≡ qs
tail_same p q ps qs e = cc

here_last : (k l : List ℕ) (t u : Tree) (ms : Members) (rest : List (List ℕ × Tree)) → (l, u) ∷ paired ms ≡ (k, t) ∷ rest → is_seen k (pair_keys rest) ≡ false → find_last_member k (member l u ms) ≡ Some t
here_last k l t u ms rest e f =
    let p = head_same (l, u) (k, t) (paired ms) rest e in
    let q = tail_same (l, u) (k, t) (paired ms) rest e in
    let own : bytes_eq k l ≡ true = (bytes_eq-Decides k l).1 (sym (ap (λ (p : List ℕ × Tree). p.0) p)) in
    ap (λ o. option_or o (if bytes_eq k l then Some u else None)) (absent_by Last k ms (ap (λ ps. is_seen k (pair_keys ps)) q ∙ f))
    ∙ ap (λ b. if b then Some u else None) own ∙ ap (λ (p : List ℕ × Tree). Some p.1) p

-- the last pair of a text is found
pub found_last : (n : ℕ) (k : List ℕ) (t : Tree) (ms : Members) (rest : List (List ℕ × Tree)) → drop n (paired ms) ≡ (k, t) ∷ rest → is_seen k (pair_keys rest) ≡ false → find_last_member k ms ≡ Some t
found_last zero k t no_members rest e f = cc
found_last zero k t (member l u ms) rest e f = here_last k l t u ms rest e f
found_last (suc n) k t no_members rest e f = cc
found_last (suc n) k t (member l u ms) rest e f = ap (λ o. option_or o (if bytes_eq k l then Some u else None)) (found_last n k t ms rest e f)

-- the texts of which no member is ahead
abbrev pub Counted : Repeats → Members → Members → List (List ℕ × Tree) → Type 0
Counted d ms ns ahead = (k : List ℕ) → is_seen k (pair_keys (paired ms)) ≡ true → is_seen k (pair_keys ahead) ≡ false → CountSame d k ms ns

pub counted_none : (d : Repeats) (ms ns : Members) (ahead : List (List ℕ × Tree)) → ahead ≡ paired ms → Counted d ms ns ahead
counted_none d ms ns ahead e = λ k s n. absurd (true≢false (sym s ∙ ap (λ ps. is_seen k (pair_keys ps)) (sym e) ∙ n))

module _ (d : Repeats) (ms ns : Members) (k : List ℕ) (t : Tree) (ahead rest : List (List ℕ × Tree)) (step : ahead ≡ (k, t) ∷ rest) where
  -- a member behind which its text stands again
  pub counted_again : is_seen k (pair_keys rest) ≡ true → Counted d ms ns ahead → Counted d ms ns rest
  counted_again b h = λ l s n. by_either (bytes_eq l k) _
      (λ e. absurd (true≢false (sym b ∙ ap (λ k. is_seen k (pair_keys rest)) (sym ((bytes_eq-Decides l k).0 e)) ∙ n)))
      (λ e. h l s (ap (λ ps. is_seen l (pair_keys ps)) step ∙ or_from (bytes_eq l k) (is_seen l (pair_keys rest)) e n))

  both_some : (x : Tree) (f g : Option Tree) → f ≡ Some t → g ≡ Some x → Same (keep_last t) (by_first d x) → SameFound (option_map keep_last f) (option_map (by_first d) g)
  both_some x f g e i s = subst (λ f. SameFound (option_map keep_last f) (option_map (by_first d) g)) (sym e) (subst (λ g. SameFound (Some (keep_last t)) (option_map (by_first d) g)) (sym i) s)

  -- the last member of its text, and what the other has
  module _ (n : ℕ) (at : drop n (paired ms) ≡ ahead) (b : is_seen k (pair_keys rest) ≡ false) where
    mine : find_last_member k ms ≡ Some t
    mine = found_last n k t ms rest (at ∙ step) b

    pub counted_same : (x : Tree) → find_member_by d k ns ≡ Some x → Same (keep_last t) (by_first d x) → Counted d ms ns ahead → Counted d ms ns rest
    counted_same x f s h = λ l z n. by_either (bytes_eq l k) _
        (λ e. subst (λ l. CountSame d l ms ns) (sym ((bytes_eq-Decides l k).0 e)) (both_some x _ _ mine f s))
        (λ e. h l z (ap (λ ps. is_seen l (pair_keys ps)) step ∙ or_from (bytes_eq l k) (is_seen l (pair_keys rest)) e n))

    pub same_last : (x : Tree) → find_member_by d k ns ≡ Some x → SameBy Last d (obj ms) (obj ns) → Same (keep_last t) (by_first d x)
    same_last x f h = subst (λ g. SameFound (Some (keep_last t)) (option_map (by_first d) g)) f (subst (λ f. SameFound (option_map keep_last f) (option_map (by_first d) (find_member_by d k ns))) mine (each_counts d ms ns h k))

    pub not_same_last : find_member_by d k ns ≡ None → SameBy Last d (obj ms) (obj ns) → ⊥
    not_same_last f h = subst (λ g. SameFound (Some (keep_last t)) (option_map (by_first d) g)) f (subst (λ f. SameFound (option_map keep_last f) (option_map (by_first d) (find_member_by d k ns))) mine (each_counts d ms ns h k))

cons_none : (k : List ℕ) (ks : List (List ℕ)) → k ∷ ks ≡ [] → ⊥
cons_none k ks e = cc

both_same : (k l : List ℕ) (ks ls : List (List ℕ)) → k ∷ ks ≡ l ∷ ls → (k ≡ l) × (ks ≡ ls)
both_same k l ks ls e = (cc, cc)

-- one place of two objects with the same texts in one order
module _ (ms ns : Members) (same : pair_keys (paired ms) ≡ pair_keys (paired ns)) (n : ℕ) (k : List ℕ) (t : Tree) (ahead rest : List (List ℕ × Tree)) (at : drop n (paired ms) ≡ ahead) (step : ahead ≡ (k, t) ∷ rest) where
  module _ (l : List ℕ) (x : Tree) (others more : List (List ℕ × Tree)) (also : drop n (paired ns) ≡ others) (shows : others ≡ (l, x) ∷ more) where
    pub one_place : (k ≡ l) × (pair_keys rest ≡ pair_keys more)
    one_place =
        both_same k l (pair_keys rest) (pair_keys more) (ap pair_keys (sym step) ∙ ap pair_keys (sym at) ∙ sym (drop-map (λ (p : List ℕ × Tree). p.0) n (paired ms)) ∙ ap (drop n) same
        ∙ drop-map (λ (p : List ℕ × Tree). p.0) n (paired ns) ∙ ap pair_keys also ∙ ap pair_keys shows)

    -- the last member of a text is the last in both
    pub last_in_both : is_seen k (pair_keys rest) ≡ false → find_last_member k ns ≡ Some x
    last_in_both b = found_last n k x ns more (also ∙ shows ∙ ap (λ l. (l, x) ∷ more) (sym one_place.0)) (ap (is_seen k) (sym one_place.1) ∙ b)

    pub counted_in_step : Same (keep_last t) (keep_last x) → Counted Last ms ns ahead → Counted Last ms ns rest
    counted_in_step s h = by_either (is_seen k (pair_keys rest)) _ (λ b. counted_again Last ms ns k t ahead rest step b h) (λ b. counted_same Last ms ns k t ahead rest step n at b x (last_in_both b) s h)

  -- where the first goes on, so does the second
  pub goes_on : (others : List (List ℕ × Tree)) → drop n (paired ns) ≡ others → others ≡ [] → ⊥
  goes_on others also ends =
      cons_none k (pair_keys rest) (ap pair_keys (sym step) ∙ ap pair_keys (sym at) ∙ sym (drop-map (λ (p : List ℕ × Tree). p.0) n (paired ms)) ∙ ap (drop n) same
      ∙ drop-map (λ (p : List ℕ × Tree). p.0) n (paired ns) ∙ ap pair_keys also ∙ ap pair_keys ends)

map_none : (f : Tree → Tree) (o : Option Tree) → option_map f o ≡ None → o ≡ None
map_none f None e = refl
map_none f (Some t) e = cc

both_none : (d : Repeats) (f g : Option Tree) → f ≡ None → g ≡ None → SameFound (option_map keep_last f) (option_map (by_first d) g)
both_none d f g e i = subst (λ f. SameFound (option_map keep_last f) (option_map (by_first d) g)) (sym e) (ap (λ g. option_map (by_first d) g) i)

-- all are counted, and no text of the second is missing
pub same_if_counted : (d : Repeats) (ms ns : Members) (ahead : List (List ℕ × Tree)) → ahead ≡ [] → Counted d ms ns ahead → HasTexts (paired ms) (paired ns) → SameBy Last d (obj ms) (obj ns)
same_if_counted d ms ns ahead e h w = from_each d ms ns (λ k. by_either (is_seen k (pair_keys (paired ms))) _
    (λ b. h k b (ap (λ ps. is_seen k (pair_keys ps)) e))
    (λ b. both_none d _ _ (absent_by Last k ms b) (absent_by d k ns (by_either (is_seen k (pair_keys (paired ns))) _ (λ c. absurd (true≢false (sym (w k c) ∙ b))) (λ c. c)))))

pub has_if_counted : (d : Repeats) (ms ns : Members) → SameBy Last d (obj ms) (obj ns) → HasTexts (paired ms) (paired ns)
has_if_counted d ms ns h = λ k s. by_either (is_seen k (pair_keys (paired ms))) _ (λ b. b)
    (λ b. absurd (true≢false (sym s ∙ unseen_by d k ns (map_none (by_first d) (find_member_by d k ns) (none_on (option_map keep_last (find_last_member k ms)) _ (ap (option_map keep_last) (absent_by Last k ms b)) (each_counts d ms ns h k))))))

pair_parts : (p q : List ℕ × Part) (ps qs : List (List ℕ × Part)) → p ∷ ps ≡ q ∷ qs → (p ≡ q) × (ps ≡ qs)
pair_parts p q ps qs e = (cc, cc)

-- the first member ahead has the choice of all
pub member_choice : (c : Repeats) (k : List ℕ) (p : Part) (qs : List (List ℕ × Part)) (ps us : List (List ℕ × Tree)) → chosen_pairs c ps ≡ (k, p) ∷ qs → ps ≡ (k, p.1) ∷ us → (p.0 ≡ c) × (qs ≡ chosen_pairs c us)
member_choice c k p qs ps us e f =
    let g = pair_parts (k, p) (k, (c, p.1)) qs (chosen_pairs c us) (sym e ∙ ap (chosen_pairs c) f) in
    (ap (λ (q : List ℕ × (Repeats × Tree)). q.1.0) g.0, g.1)

-- keys behind a place
pub behind_found : (k l : List ℕ) (ks rest : List (List ℕ)) (n : ℕ) (all : Bool) → is_seen k (drop n ks) ≡ all → ks ≡ l ∷ rest → n ≤ 0 → bytes_eq k l ≡ true → true ≡ all
behind_found k l ks rest zero all e f z h = sym (ap (λ b. b || is_seen k rest) h) ∙ sym (ap (is_seen k) f) ∙ e
behind_found k l ks rest (suc n) all e f z h = absurd (omega (arith, z))

pub behind_other : (k l : List ℕ) (ks rest : List (List ℕ)) (n : ℕ) (all : Bool) → is_seen k (drop n ks) ≡ all → ks ≡ l ∷ rest → n ≤ 0 → bytes_eq k l ≡ false → is_seen k (drop n rest) ≡ all
behind_other k l ks rest zero all e f z h = sym (ap (λ b. b || is_seen k rest) h) ∙ sym (ap (is_seen k) f) ∙ e
behind_other k l ks rest (suc n) all e f z h = absurd (omega (arith, z))

pub behind_passed : (k l : List ℕ) (ks rest : List (List ℕ)) (n m : ℕ) (all : Bool) → is_seen k (drop n ks) ≡ all → ks ≡ l ∷ rest → n ≡ suc m → is_seen k (drop m rest) ≡ all
behind_passed k l ks rest n m all e f g = ap (λ ks. is_seen k (drop (suc m) ks)) (sym f) ∙ ap (λ n. is_seen k (drop n ks)) (sym g) ∙ e

drop_none : (n : ℕ) → drop {A = List ℕ} n [] ≡ []
drop_none zero = refl
drop_none (suc n) = refl

pub behind_none : (k : List ℕ) (ks : List (List ℕ)) (n : ℕ) (all : Bool) → is_seen k (drop n ks) ≡ all → ks ≡ [] → false ≡ all
behind_none k ks n all e f = sym (ap (is_seen k) (drop_none n)) ∙ sym (ap (λ ks. is_seen k (drop n ks)) f) ∙ e

-- whether a text is behind a place, told of the members there
pub seen_behind : (b : Bool) (n : ℕ) (k : List ℕ) (ps rest : List (List ℕ × Tree)) → b ≡ is_seen k (drop n (pair_keys ps)) → drop n ps ≡ rest → b ≡ is_seen k (pair_keys rest)
seen_behind b n k ps rest e f = e ∙ ap (is_seen k) (drop-map (λ (p : List ℕ × Tree). p.0) n ps) ∙ ap (λ ps. is_seen k (pair_keys ps)) f

-- a text is absent by either choice where it is absent by the first
pub first_absent : (d : Repeats) (k : List ℕ) (ms : Members) → find_member_by d k ms ≡ None → find_member k ms ≡ None
first_absent d k ms e = absent_by First k ms (unseen_by d k ms e)

pub absent_first : (d : Repeats) (k : List ℕ) (ms : Members) → find_member k ms ≡ None → find_member_by d k ms ≡ None
absent_first d k ms e = absent_by d k ms (unseen_by First k ms e)

within_first : (b : Bool) (r : Option Tree) (t u : Tree) (n : ℕ) → (if b then Some t else r) ≡ Some u → (r ≡ Some u → depth u ≤ n) → depth u ≤ max (depth t) n
within_first true r t u n e h = let i : t ≡ u = cc in omega (arith, ap depth i)
within_first false r t u n e h = omega (arith, h e)

within_last : (b : Bool) (r : Option Tree) (t u : Tree) (n : ℕ) → option_or r (if b then Some t else None) ≡ Some u → (r ≡ Some u → depth u ≤ n) → depth u ≤ max (depth t) n
within_last b (Some x) t u n e h = omega (arith, h e)
within_last true None t u n e h = let i : t ≡ u = cc in omega (arith, ap depth i)
within_last false None t u n e h = cc

-- what is found is less deep than an object of the members
pub found_within : (d : Repeats) (k : List ℕ) (ms : Members) (u : Tree) → find_member_by d k ms ≡ Some u → depth u ≤ members_depth ms
found_within First k no_members u e = cc
found_within First k (member l t ms) u e = within_first (bytes_eq k l) (find_member k ms) t u (members_depth ms) e (found_within First k ms u)
found_within Last k no_members u e = cc
found_within Last k (member l t ms) u e = within_last (bytes_eq k l) (find_last_member k ms) t u (members_depth ms) e (found_within Last k ms u)

pub by_choices : (c d e f : Repeats) (t u : Tree) → c ≡ e → d ≡ f → SameBy c d t u → SameBy e f t u
by_choices c d e f t u g i h = subst (λ e. Same (by_first e t) (by_first f u)) g (subst (λ f. Same (by_first c t) (by_first f u)) i h)
