-- In what is kept each text names one member, and where that is so nothing is dropped.
use Rattle.std.proofs.Common.{◌≡◌, ℕ, Bool, true, false, ◌||◌, List, [], ◌∷◌, Option, Some, None, option_map, if◌then◌else◌, bytes_eq, refl, sym, ap, ap₂, ◌∙◌, true≢false, subst}
use Rattle.std.proofs.lemmas.Option.{none-some}
use Rattle.std.proofs.lemmas.Slice.Eq.{bytes_eq-Decides}
use Rattle.sj_text_core.specs.Tree.{Tree, null, boolean, int, text, list, obj, Items, no_items, item, Members, no_members, member}
use Rattle.sj_text_core.specs.Find.{find, find_member}
use Rattle.sj_text_core.specs.Keep.{is_seen, keep, keep_items, keep_members, IsSingle, AreSingle, HasSingle, IsKept}
use Rattle.sj_text_core.specs.Edits.{put}
use Rattle.sj_text_core.specs.Repeats.{find_by, keep_by, keep_last, keep_last_items, keep_last_values, put_all}
use Rattle.sj_text_core.specs.declared.repeats.Repeats.{Repeats}
use Rattle.sj_text_core.specs.declared.repeats.Repeats.TheVariants.{First, Last}
use Rattle.sj_text_core.proofs.Finds.{find-keep, find-kept_after}
use Rattle.sj_text_core.proofs.Last.{find-put, find-keep_last}
use Rattle.sj_text_core.proofs.Texts.{bytes_eq-self, bytes_eq-sym, absent_parts}

-- a member that was found is there
not_none : (k : List ℕ) (t : Tree) (ms : Members) → find_member k (member k t ms) ≡ None → ⊥
not_none k t ms e = none-some t (sym e ∙ ap (λ b. if b then Some t else find_member k ms) (bytes_eq-self k))

-- what is not found is not found behind the first
not_behind : (k l : List ℕ) (t : Tree) (ms : Members) → find_member k (member l t ms) ≡ None → find_member k ms ≡ None
not_behind k l t ms e = (absent_parts (bytes_eq k l) t (find_member k ms) e).1

-- The first of each text.
stays_single : (b : Bool) (k : List ℕ) (t : Tree) (dropped stays : Members) → HasSingle dropped → find_member k stays ≡ None → IsSingle t → HasSingle stays → HasSingle (if b then dropped else member k t stays)
stays_single true k t dropped stays h e i j = h
stays_single false k t dropped stays h e i j = (e, i, j)

mutual
  single-keep : (t : Tree) → IsSingle (keep t)
  single-keep null = tt
  single-keep (boolean b) = tt
  single-keep (int n c) = tt
  single-keep (text s) = tt
  single-keep (list is) = single-keep_items is
  single-keep (obj ms) = single-keep_members [] ms

  single-keep_items : (is : Items) → AreSingle (keep_items is)
  single-keep_items no_items = tt
  single-keep_items (item t is) = (single-keep t, single-keep_items is)

  single-keep_members : (seen : List (List ℕ)) (ms : Members) → HasSingle (keep_members seen ms)
  single-keep_members seen no_members = tt
  single-keep_members seen (member k t ms) =
      stays_single (is_seen k seen) k (keep t) (keep_members seen ms) (keep_members (k ∷ seen) ms) (single-keep_members seen ms)
      (find-kept_after k (k ∷ seen) ms ∙ ap (λ b. if b || is_seen k seen then None else option_map keep (find_member k ms)) (bytes_eq-self k)) (single-keep t) (single-keep_members (k ∷ seen) ms)

-- no text that was seen is found
abbrev AllNew : List (List ℕ) → Members → Type 0
AllNew seen ms = (k : List ℕ) → is_seen k seen ≡ true → find_member k ms ≡ None

new_behind : (seen : List (List ℕ)) (l : List ℕ) (t : Tree) (ms : Members) → find_member l ms ≡ None → AllNew seen (member l t ms) → AllNew (l ∷ seen) ms
new_behind seen l t ms none h k e = by_test (bytes_eq k l) refl e
  where
    by_test : (b : Bool) → bytes_eq k l ≡ b → b || is_seen k seen ≡ true → find_member k ms ≡ None
    by_test true f g = ap (λ k. find_member k ms) ((bytes_eq-Decides k l).0 f) ∙ none
    by_test false f g = not_behind k l t ms (h k g)

first_new : (b : Bool) (k : List ℕ) (t : Tree) (ms dropped stays : Members) → (b ≡ true → find_member k (member k t ms) ≡ None) → stays ≡ member k t ms → (if b then dropped else stays) ≡ member k t ms
first_new true k t ms dropped stays h e = absurd (not_none k t ms (h refl))
first_new false k t ms dropped stays h e = e

mutual
  keep-single : (t : Tree) → IsSingle t → keep t ≡ t
  keep-single null h = refl
  keep-single (boolean b) h = refl
  keep-single (int n c) h = refl
  keep-single (text s) h = refl
  keep-single (list is) h = ap list (keep_items-single is h)
  keep-single (obj ms) h = ap obj (keep_members-single [] ms h (λ k e. absurd (true≢false (sym e))))

  keep_items-single : (is : Items) → AreSingle is → keep_items is ≡ is
  keep_items-single no_items h = refl
  keep_items-single (item t is) h = ap₂ item (keep-single t h.0) (keep_items-single is h.1)

  keep_members-single : (seen : List (List ℕ)) (ms : Members) → HasSingle ms → AllNew seen ms → keep_members seen ms ≡ ms
  keep_members-single seen no_members h new = refl
  keep_members-single seen (member k t ms) h new =
      first_new (is_seen k seen) k t ms (keep_members seen ms) (member k (keep t) (keep_members (k ∷ seen) ms)) (new k)
      (ap₂ (λ u ns. member k u ns) (keep-single t h.1) (keep_members-single (k ∷ seen) ms h.2 (new_behind seen k t ms h.0 new)))

-- The last of each text, in the place of the first.
single_by : (b : Bool) (k l : List ℕ) (t u : Tree) (ms stays : Members) → bytes_eq k l ≡ b → IsSingle t → HasSingle (member l u ms) → find_member l stays ≡ (if bytes_eq l k then Some t else find_member l ms) → HasSingle stays
    → HasSingle (if b then member l t ms else member l u stays)
single_by true k l t u ms stays e h i found rest = (i.0, h, i.2)
single_by false k l t u ms stays e h i found rest = (found ∙ ap (λ b. if b then Some t else find_member l ms) (bytes_eq-sym k l e) ∙ i.0, i.1, rest)

pub single-put : (k : List ℕ) (t : Tree) (ms : Members) → IsSingle t → HasSingle ms → HasSingle (put k t ms)
single-put k t no_members h i = (refl, h, tt)
single-put k t (member l u ms) h i = single_by (bytes_eq k l) k l t u ms (put k t ms) refl h i (find-put l k t ms) (single-put k t ms h i.2)

abbrev AllSingle : Members → Type 0
AllSingle no_members = Unit {0}
AllSingle (member k t ms) = IsSingle t × AllSingle ms

single-put_all : (done ms : Members) → HasSingle done → AllSingle ms → HasSingle (put_all done ms)
single-put_all done no_members h i = h
single-put_all done (member k t ms) h i = single-put_all (put k t done) ms (single-put k t done i.0 h) i.1

mutual
  single-keep_last : (t : Tree) → IsSingle (keep_last t)
  single-keep_last null = tt
  single-keep_last (boolean b) = tt
  single-keep_last (int n c) = tt
  single-keep_last (text s) = tt
  single-keep_last (list is) = single-keep_last_items is
  single-keep_last (obj ms) = single-put_all no_members (keep_last_values ms) tt (single-keep_last_values ms)

  single-keep_last_items : (is : Items) → AreSingle (keep_last_items is)
  single-keep_last_items no_items = tt
  single-keep_last_items (item t is) = (single-keep_last t, single-keep_last_items is)

  single-keep_last_values : (ms : Members) → AllSingle (keep_last_values ms)
  single-keep_last_values no_members = tt
  single-keep_last_values (member k t ms) = (single-keep_last t, single-keep_last_values ms)

abbrev pub joined : Members → Members → Members
joined no_members ns = ns
joined (member k t ms) ns = member k t (joined ms ns)

pub joined-nothing : (ms : Members) → joined ms no_members ≡ ms
joined-nothing no_members = refl
joined-nothing (member k t ms) = ap (member k t) (joined-nothing ms)

pub joined-joined : (done : Members) (k : List ℕ) (t : Tree) (ms : Members) → joined (joined done (member k t no_members)) ms ≡ joined done (member k t ms)
joined-joined no_members k t ms = refl
joined-joined (member l u done) k t ms = ap (member l u) (joined-joined done k t ms)

new_by : (b : Bool) (l : List ℕ) (u : Tree) (r : Option Tree) (there stays last : Members) → (if b then Some u else r) ≡ None → (r ≡ None → stays ≡ last) → (if b then there else member l u stays) ≡ member l u last
new_by true l u r there stays last e rest = absurd (none-some u (sym e))
new_by false l u r there stays last e rest = ap (member l u) (rest e)

put-new : (k : List ℕ) (t : Tree) (done : Members) → find_member k done ≡ None → put k t done ≡ joined done (member k t no_members)
put-new k t no_members e = refl
put-new k t (member l u done) e = new_by (bytes_eq k l) l u (find_member k done) (member l t done) (put k t done) (joined done (member k t no_members)) e (λ f. put-new k t done f)

-- no text of the first is found in the second
abbrev Apart : Members → Members → Type 0
Apart done ms = (k : List ℕ) (u : Tree) → find_member k done ≡ Some u → find_member k ms ≡ None

apart_none : (done : Members) (k : List ℕ) (t : Tree) (ms : Members) → Apart done (member k t ms) → find_member k done ≡ None
apart_none done k t ms h = by_found (find_member k done) refl
  where
    by_found : (o : Option Tree) → find_member k done ≡ o → o ≡ None
    by_found None e = refl
    by_found (Some u) e = absurd (not_none k t ms (h k u e))

apart_put : (done : Members) (k : List ℕ) (t : Tree) (ms : Members) → find_member k ms ≡ None → Apart done (member k t ms) → Apart (put k t done) ms
apart_put done k t ms none h l u e = by_test (bytes_eq l k) refl (sym (find-put l k t done) ∙ e)
  where
    by_test : (b : Bool) → bytes_eq l k ≡ b → (if b then Some t else find_member l done) ≡ Some u → find_member l ms ≡ None
    by_test true f g = ap (λ k. find_member k ms) ((bytes_eq-Decides l k).0 f) ∙ none
    by_test false f g = not_behind l k t ms (h l u g)

put_all-single : (done ms : Members) → HasSingle ms → Apart done ms → put_all done ms ≡ joined done ms
put_all-single done no_members h apart = sym (joined-nothing done)
put_all-single done (member k t ms) h apart =
    put_all-single (put k t done) ms h.2 (apart_put done k t ms h.0 apart)
    ∙ ap (λ d. joined d ms) (put-new k t done (apart_none done k t ms apart)) ∙ joined-joined done k t ms

mutual
  keep_last-single : (t : Tree) → IsSingle t → keep_last t ≡ t
  keep_last-single null h = refl
  keep_last-single (boolean b) h = refl
  keep_last-single (int n c) h = refl
  keep_last-single (text s) h = refl
  keep_last-single (list is) h = ap list (keep_last_items-single is h)
  keep_last-single (obj ms) h = ap obj (ap (put_all no_members) (keep_last_values-single ms h) ∙ put_all-single no_members ms h (λ k u e. absurd (none-some u e)))

  keep_last_items-single : (is : Items) → AreSingle is → keep_last_items is ≡ is
  keep_last_items-single no_items h = refl
  keep_last_items-single (item t is) h = ap₂ item (keep_last-single t h.0) (keep_last_items-single is h.1)

  keep_last_values-single : (ms : Members) → HasSingle ms → keep_last_values ms ≡ ms
  keep_last_values-single no_members h = refl
  keep_last_values-single (member k t ms) h = ap₂ (λ u ns. member k u ns) (keep_last-single t h.1) (keep_last_values-single ms h.2)

-- By either choice.
pub single-keep_by : (c : Repeats) (t : Tree) → IsSingle (keep_by c t)
single-keep_by First t = single-keep t
single-keep_by Last t = single-keep_last t

-- where keeping drops nothing, no text names two members
pub single-kept : (t : Tree) → IsKept t → IsSingle t
single-kept t e = subst IsSingle e (single-keep_by First t)

pub keep_by-single : (c : Repeats) (t : Tree) → IsSingle t → keep_by c t ≡ t
keep_by-single First t h = keep-single t h
keep_by-single Last t h = keep_last-single t h

pub keep_by-keep_by : (c : Repeats) (t : Tree) → keep_by c (keep_by c t) ≡ keep_by c t
keep_by-keep_by c t = keep_by-single c (keep_by c t) (single-keep_by c t)

pub find-keep_by : (c : Repeats) (k : List ℕ) (t : Tree) → find k (keep_by c t) ≡ option_map (keep_by c) (find_by c k t)
find-keep_by First k t = find-keep k t
find-keep_by Last k t = find-keep_last k t

-- what was found, if anything was
abbrev pub SingleFound : Option Tree → Type 0
SingleFound None = Unit {0}
SingleFound (Some t) = IsSingle t

found_single : (b : Bool) (t : Tree) (r : Option Tree) → IsSingle t → SingleFound r → SingleFound (if b then Some t else r)
found_single true t r s h = s
found_single false t r s h = h

pub single-member : (k : List ℕ) (ms : Members) → HasSingle ms → SingleFound (find_member k ms)
single-member k no_members h = tt
single-member k (member l t ms) h = found_single (bytes_eq k l) t (find_member k ms) h.1 (single-member k ms h.2)
