-- Trees with the members that count, by their own cases.
use Rattle.std.proofs.Common.{◌≡◌, ℕ, Bool, true, false, ◌||◌, List, [], ◌∷◌, ◌++◌, map, refl, ap, ◌∙◌, bytes_eq}
use Rattle.std.specs.Bool.{if◌then◌else◌}
use Rattle.sj_text_core.specs.Tree.{Tree, null, boolean, int, text, list, obj, Items, no_items, item, Members, no_members, member, items_from, members_from, listed, paired}
use Rattle.sj_text_core.specs.Keep.{is_seen, keep, keep_items, keep_members}
use Rattle.sj_text_core.specs.Edits as members
use Rattle.sj_text_core.specs.Repeats.{keep_by, keep_last_items, keep_last_values, put_all}
use Rattle.sj_text_core.specs.declared.repeats.Repeats.{Repeats}
use Rattle.sj_text_core.specs.declared.repeats.Repeats.TheVariants.{First, Last}
use Rattle.sj_object.specs.inner.Piles.{pair_texts, kept_pairs, kept_by, put_pair, put_in_turn}

abbrev pub items_by : Repeats → Items → Items
items_by First is = keep_items is
items_by Last is = keep_last_items is

abbrev pub members_by : Repeats → Members → Members
members_by First ms = keep_members [] ms
members_by Last ms = put_all no_members (keep_last_values ms)

abbrev pub tree_by : Repeats → Tree → Tree
tree_by c null = null
tree_by c (boolean b) = boolean b
tree_by c (int n d) = int n d
tree_by c (text s) = text s
tree_by c (list is) = list (items_by c is)
tree_by c (obj ms) = obj (members_by c ms)

pub tree_kept : (c : Repeats) (t : Tree) → tree_by c t ≡ keep_by c t
tree_kept First null = refl
tree_kept First (boolean b) = refl
tree_kept First (int n c) = refl
tree_kept First (text s) = refl
tree_kept First (list is) = refl
tree_kept First (obj ms) = refl
tree_kept Last null = refl
tree_kept Last (boolean b) = refl
tree_kept Last (int n c) = refl
tree_kept Last (text s) = refl
tree_kept Last (list is) = refl
tree_kept Last (obj ms) = refl

item_by : (c : Repeats) (t : Tree) (is : Items) → item (tree_by c t) (items_by c is) ≡ items_by c (item t is)
item_by First t is = ap (λ u. item u (keep_items is)) (tree_kept First t)
item_by Last t is = ap (λ u. item u (keep_last_items is)) (tree_kept Last t)

no_items_by : (c : Repeats) → no_items ≡ items_by c no_items
no_items_by First = refl
no_items_by Last = refl

pub items_kept : (c : Repeats) (is : Items) → items_from (map (tree_by c) (listed is)) ≡ items_by c is
items_kept c no_items = no_items_by c
items_kept c (item t is) = ap (item (tree_by c t)) (items_kept c is) ∙ item_by c t is

-- ---- members, of each key the one that counts

abbrev pub pairs_by : Repeats → Members → List (List ℕ × Tree)
pairs_by c ms = map (λ (p : List ℕ × Tree). (p.0, tree_by c p.1)) (paired ms)

or_swap : (a b c : Bool) → a || (b || c) ≡ b || (a || c)
or_swap true true c = refl
or_swap true false c = refl
or_swap false b c = refl

has_last : (k : List ℕ) (ps : List (List ℕ × Tree)) (l : List ℕ) (t : Tree) → is_seen k (pair_texts (ps ++ (l, t) ∷ [])) ≡ bytes_eq k l || is_seen k (pair_texts ps)
has_last k [] l t = refl
has_last k (p ∷ ps) l t = ap (λ b. bytes_eq k p.0 || b) (has_last k ps l t) ∙ or_swap (bytes_eq k p.0) (bytes_eq k l) (is_seen k (pair_texts ps))

abbrev join : List (List ℕ × Tree) → Members → Members
join [] ms = ms
join (p ∷ ps) ms = member p.0 p.1 (join ps ms)

join_push : (ps : List (List ℕ × Tree)) (k : List ℕ) (t : Tree) (ms : Members) → join (ps ++ (k, t) ∷ []) ms ≡ join ps (member k t ms)
join_push [] k t ms = refl
join_push (p ∷ ps) k t ms = ap (member p.0 p.1) (join_push ps k t ms)

join_end : (ps : List (List ℕ × Tree)) → members_from ps ≡ join ps no_members
join_end [] = refl
join_end (p ∷ ps) = ap (member p.0 p.1) (join_end ps)

abbrev Agree : List (List ℕ × Tree) → List (List ℕ) → Type 0
Agree done ks = (k : List ℕ) → is_seen k (pair_texts done) ≡ is_seen k ks

agree_more : (done : List (List ℕ × Tree)) (ks : List (List ℕ)) (l : List ℕ) (t : Tree) → Agree done ks → Agree (done ++ (l, t) ∷ []) (l ∷ ks)
agree_more done ks l t a = λ k. has_last k done l t ∙ ap (λ b. bytes_eq k l || b) (a k)

choose : (a b : Bool) → a ≡ b → (k : List ℕ) (t : Tree) (done rest : List (List ℕ × Tree)) (u v : Members)
    → members_from (kept_pairs done rest) ≡ join done u
    → members_from (kept_pairs (done ++ (k, t) ∷ []) rest) ≡ join (done ++ (k, t) ∷ []) v
    → members_from (kept_pairs (if a then done else done ++ (k, t) ∷ []) rest) ≡ join done (if b then u else member k t v)
choose true true e k t done rest u v x y = x
choose false false e k t done rest u v x y = y ∙ join_push done k t v
choose true false e k t done rest u v x y = cc
choose false true e k t done rest u v x y = cc

keeps_first : (ms : Members) (done : List (List ℕ × Tree)) (ks : List (List ℕ)) → Agree done ks → members_from (kept_pairs done (pairs_by First ms)) ≡ join done (keep_members ks ms)
keeps_first no_members done ks a = join_end done
keeps_first (member s t ms) done ks a =
    ap (λ u. members_from (kept_pairs (if is_seen s (pair_texts done) then done else done ++ (s, u) ∷ []) (pairs_by First ms))) (tree_kept First t)
    ∙ choose (is_seen s (pair_texts done)) (is_seen s ks) (a s) s (keep t) done (pairs_by First ms) _ _
    (keeps_first ms done ks a)
    (keeps_first ms (done ++ (s, keep t) ∷ []) (s ∷ ks) (agree_more done ks s (keep t) a))

members_from-put : (k : List ℕ) (t : Tree) (ps : List (List ℕ × Tree)) → members_from (put_pair k t ps) ≡ members.put k t (members_from ps)
members_from-put k t [] = refl
members_from-put k t (p ∷ ps) = by_test (bytes_eq k p.0) (members_from-put k t ps)
  where
    by_test : (b : Bool) → members_from (put_pair k t ps) ≡ members.put k t (members_from ps)
        → members_from (if b then (p.0, t) ∷ ps else p ∷ put_pair k t ps) ≡ (if b then member p.0 t (members_from ps) else member p.0 p.1 (members.put k t (members_from ps)))
    by_test true e = refl
    by_test false e = ap (member p.0 p.1) e

puts_last : (ms : Members) (done : List (List ℕ × Tree)) → members_from (put_in_turn done (pairs_by Last ms)) ≡ put_all (members_from done) (keep_last_values ms)
puts_last no_members done = refl
puts_last (member s t ms) done =
    puts_last ms (put_pair s (tree_by Last t) done)
    ∙ ap (λ ns. put_all ns (keep_last_values ms)) (members_from-put s (tree_by Last t) done ∙ ap (λ u. members.put s u (members_from done)) (tree_kept Last t))

pub members_kept : (c : Repeats) (ms : Members) → members_from (kept_by c [] (pairs_by c ms)) ≡ members_by c ms
members_kept First ms = keeps_first ms [] [] (λ k. refl)
members_kept Last ms = puts_last ms []
