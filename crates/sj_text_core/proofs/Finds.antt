-- What is found in a kept tree, and in a tree whose numbers have the carriers of their prints.
use Rattle.std.proofs.Common.{◌≡◌, ℕ, zero, suc, ◌≤◌, max, Bool, true, false, ◌||◌, List, [], ◌∷◌, Option, Some, None, option_map, refl, sym, ap, ◌∙◌, subst, bytes_eq}
use Rattle.std.specs.Prelude.{MatchBool, MatchOption, if◌then◌else◌}
use Rattle.std.proofs.lemmas.Slice.Eq.{bytes_eq-Decides}
use Rattle.sj_text_core.specs.Tree.{Tree, null, boolean, int, text, list, obj, Items, no_items, item, Members, no_members, member, depth, items_depth, members_depth, IsWithin}
use Rattle.sj_text_core.specs.Find.{find, find_member, nth, nth_item}
use Rattle.sj_text_core.specs.Keep.{is_seen, keep, keep_items, keep_members}
use Rattle.sj_text_core.specs.Same.{Same, SameItems, SameAt}
use Rattle.sj_text_core.specs.Print.{recarry, recarry_items, recarry_members}

-- of members past those seen, the first of a text is there where the text was not seen
seen_by : (x y b : Bool) (k : List ℕ) (l : List ℕ) (seen : List (List ℕ)) (t : Tree) (r s : Option Tree) (ms : Members) → bytes_eq k l ≡ b → is_seen k seen ≡ y → is_seen l seen ≡ x
    → find_member k (keep_members seen ms) ≡ (if y then None else r)
    → find_member k (keep_members (l ∷ seen) ms) ≡ (if b || y then None else r)
    → find_member k (if x then keep_members seen ms else member l (keep t) (keep_members (l ∷ seen) ms)) ≡ (if y then None else if b then Some (keep t) else r)
seen_by true y true k l seen t r s ms e f g h i = let same : y ≡ true = sym f ∙ ap (λ k. is_seen k seen) ((bytes_eq-Decides k l).0 e) ∙ g in h ∙ (λ j. if same j then None else r) ∙ (λ j. if sym same j then None else Some (keep t))
seen_by true y false k l seen t r s ms e f g h i = h
seen_by false true true k l seen t r s ms e f g h i = let same : true ≡ false = sym f ∙ ap (λ k. is_seen k seen) ((bytes_eq-Decides k l).0 e) ∙ g in cc
seen_by false false true k l seen t r s ms e f g h i = λ j. if e j then Some (keep t) else find_member k (keep_members (l ∷ seen) ms)
seen_by false true false k l seen t r s ms e f g h i = (λ j. if e j then Some (keep t) else find_member k (keep_members (l ∷ seen) ms)) ∙ i
seen_by false false false k l seen t r s ms e f g h i = (λ j. if e j then Some (keep t) else find_member k (keep_members (l ∷ seen) ms)) ∙ i

kept_by : (b : Bool) (t : Tree) (r : Option Tree) → (if b then Some (keep t) else option_map keep r) ≡ option_map keep (if b then Some t else r)
kept_by true t r = refl
kept_by false t r = refl

pub find-kept_after : (k : List ℕ) (seen : List (List ℕ)) (ms : Members) → find_member k (keep_members seen ms) ≡ (if is_seen k seen then None else option_map keep (find_member k ms))
find-kept_after k seen no_members = none_either (is_seen k seen) where
  none_either : (b : Bool) → ◌≡◌ {A = Option Tree} None (if b then None else None)
  none_either true = refl
  none_either false = refl
find-kept_after k seen (member l t ms) =
    seen_by (is_seen l seen) (is_seen k seen) (bytes_eq k l) k l seen t (option_map keep (find_member k ms)) None ms refl refl refl (find-kept_after k seen ms) (find-kept_after k (l ∷ seen) ms)
    ∙ ap (λ r. if is_seen k seen then None else r) (kept_by (bytes_eq k l) t (find_member k ms))

pub find_member-keep : (k : List ℕ) (ms : Members) → find_member k (keep_members [] ms) ≡ option_map keep (find_member k ms)
find_member-keep k ms = find-kept_after k [] ms

-- a member of a kept tree is the kept member
pub find-keep : (k : List ℕ) (t : Tree) → find k (keep t) ≡ option_map keep (find k t)
find-keep k null = refl
find-keep k (boolean b) = refl
find-keep k (int n c) = refl
find-keep k (text s) = refl
find-keep k (list is) = refl
find-keep k (obj ms) = find_member-keep k ms

nth_item-keep : (i : ℕ) (is : Items) → nth_item i (keep_items is) ≡ option_map keep (nth_item i is)
nth_item-keep i no_items = refl
nth_item-keep zero (item t is) = refl
nth_item-keep (suc i) (item t is) = nth_item-keep i is

pub nth-keep : (i : ℕ) (t : Tree) → nth i (keep t) ≡ option_map keep (nth i t)
nth-keep i null = refl
nth-keep i (boolean b) = refl
nth-keep i (int n c) = refl
nth-keep i (text s) = refl
nth-keep i (list is) = nth_item-keep i is
nth-keep i (obj ms) = refl

under_by : (b : Bool) (f : Tree → Tree) (t : Tree) (P : Option Tree → Type 0) (r : Option Tree) → Same t (f t) → P (option_map f r)
    → MatchBool b (MatchOption (option_map f (if b then Some t else r)) ⊥ (λ u. Same t u)) (P (option_map f (if b then Some t else r)))
under_by true f t P r s h = s
under_by false f t P r s h = h

mutual
  -- a tree is the same as its kept tree
  pub same-keep : (t : Tree) → Same t (keep t)
  same-keep null = refl
  same-keep (boolean b) = refl
  same-keep (int n c) = refl
  same-keep (text s) = refl
  same-keep (list is) = same_items-keep is
  same-keep (obj ms) = λ k. subst (SameAt k ms) (sym (find_member-keep k ms)) (same_at-keep k ms)

  same_items-keep : (is : Items) → SameItems is (keep_items is)
  same_items-keep no_items = refl
  same_items-keep (item t is) = (same-keep t, same_items-keep is)

  same_at-keep : (k : List ℕ) (ms : Members) → SameAt k ms (option_map keep (find_member k ms))
  same_at-keep k no_members = refl
  same_at-keep k (member l t ms) = under_by (bytes_eq k l) keep t (SameAt k ms) (find_member k ms) (same-keep t) (same_at-keep k ms)

recarried_by : (b : Bool) (t : Tree) (r : Option Tree) → (if b then Some (recarry t) else option_map recarry r) ≡ option_map recarry (if b then Some t else r)
recarried_by true t r = refl
recarried_by false t r = refl

pub find_member-recarry : (k : List ℕ) (ms : Members) → find_member k (recarry_members ms) ≡ option_map recarry (find_member k ms)
find_member-recarry k no_members = refl
find_member-recarry k (member l t ms) = ap (λ r. if bytes_eq k l then Some (recarry t) else r) (find_member-recarry k ms) ∙ recarried_by (bytes_eq k l) t (find_member k ms)

mutual
  -- the carriers of prints change no meaning
  pub same-recarry : (t : Tree) → Same t (recarry t)
  same-recarry null = refl
  same-recarry (boolean b) = refl
  same-recarry (int n c) = refl
  same-recarry (text s) = refl
  same-recarry (list is) = same_items-recarry is
  same-recarry (obj ms) = λ k. subst (SameAt k ms) (sym (find_member-recarry k ms)) (same_at-recarry k ms)

  same_items-recarry : (is : Items) → SameItems is (recarry_items is)
  same_items-recarry no_items = refl
  same_items-recarry (item t is) = (same-recarry t, same_items-recarry is)

  same_at-recarry : (k : List ℕ) (ms : Members) → SameAt k ms (option_map recarry (find_member k ms))
  same_at-recarry k no_members = refl
  same_at-recarry k (member l t ms) = under_by (bytes_eq k l) recarry t (SameAt k ms) (find_member k ms) (same-recarry t) (same_at-recarry k ms)

mutual
  pub depth-recarry : (t : Tree) → depth (recarry t) ≡ depth t
  depth-recarry null = refl
  depth-recarry (boolean b) = refl
  depth-recarry (int n c) = refl
  depth-recarry (text s) = refl
  depth-recarry (list is) = λ i. suc (items_depth-recarry is i)
  depth-recarry (obj ms) = λ i. suc (members_depth-recarry ms i)

  items_depth-recarry : (is : Items) → items_depth (recarry_items is) ≡ items_depth is
  items_depth-recarry no_items = refl
  items_depth-recarry (item t is) = λ i. max (depth-recarry t i) (items_depth-recarry is i)

  members_depth-recarry : (ms : Members) → members_depth (recarry_members ms) ≡ members_depth ms
  members_depth-recarry no_members = refl
  members_depth-recarry (member k t ms) = λ i. max (depth-recarry t i) (members_depth-recarry ms i)

-- a tree within the limit stays within it
pub within-recarry : (t : Tree) → IsWithin t → IsWithin (recarry t)
within-recarry t h = subst (λ n. n ≤ 1024) (sym (depth-recarry t)) h
