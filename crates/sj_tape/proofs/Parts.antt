-- Parts that are read one after the other, as a loop does.
use Rattle.std.proofs.Common.{◌≡◌, ℕ, zero, suc, ◌+◌, ◌-◌, ◌<◌, Bool, true, false, List, [], ◌∷◌, ◌++◌, length, option_map, Some, None, refl, sym, ap, ◌∙◌, arith, append_assoc, append-nil, length-append}
use Rattle.sj_text_core.specs.Tree.{Tree, items_len, members_len}
use Rattle.sj_text_core.specs.Nodes.{Mark, flat, flat_items, flat_members, string}
use Rattle.sj_text_core.specs.inner.Parse.{Reading, parts_at, separator_at, with_first}
use Rattle.sj_text_core.specs.Tree.{items_from, members_from}

abbrev pub with_front : {X : Type 0} → List X → Reading (List X) → Reading (List X)
with_front front read = option_map (λ p. (front ++ p.0, p.1)) read

-- a front of the parts was read, and the rest of the bytes gives the others
pub record Progress {X : Type 0} (flats : List X → List Mark) (others : Reading (List X)) (whole : Reading (List X)) (old new : List Mark) (len : ℕ) : Type 0 where
  pub front : List X
  pub so_far : with_front front others ≡ whole
  pub nodes : new ≡ old ++ flats front
  pub count : len ≡ length front

-- no part is read yet
pub starts : {X : Type 0} (flats : List X → List Mark) (whole : Reading (List X)) (old : List Mark) → flats [] ≡ [] → Progress flats whole whole old old 0
starts flats None old e = record { front = []; so_far = refl; nodes = rw e (sym (append-nil old)); count = refl }
starts flats (Some p) old e = record { front = []; so_far = refl; nodes = rw e (sym (append-nil old)); count = refl }

module _ {X : Type 0} (close : ℕ) (read : List ℕ → Reading X) where
  pub parts_none : (n : ℕ) (b : List ℕ) → read b ≡ None → parts_at close read n b ≡ None
  unfolding parts_at
  parts_none zero b e = refl
  parts_none (suc n) b e = rw e refl

  pub parts_unseparated : (n : ℕ) (b : List ℕ) (x : X) (r : List ℕ) → read b ≡ Some (x, r) → separator_at close r ≡ None → parts_at close read n b ≡ None
  unfolding parts_at
  parts_unseparated zero b x r e f = refl
  parts_unseparated (suc n) b x r e f = rw e (rw f refl)

  pub parts_last : (n : ℕ) (b : List ℕ) (x : X) (r s : List ℕ) → read b ≡ Some (x, r) → separator_at close r ≡ Some (false, s) → parts_at close read (suc n) b ≡ Some (x ∷ [], s)
  unfolding parts_at
  parts_last n b x r s e f = rw e (rw f refl)

  pub parts_more : (n : ℕ) (b : List ℕ) (x : X) (r s : List ℕ) → read b ≡ Some (x, r) → separator_at close r ≡ Some (true, s) → parts_at close read (suc n) b ≡ with_first x (parts_at close read n s)
  unfolding parts_at
  parts_more n b x r s e f = rw e (rw f refl)

regroup : {X : Type 0} (front : List X) (x : X) (read : Reading (List X)) → with_front front (with_first x read) ≡ with_front (front ++ x ∷ []) read
regroup front x None = refl
regroup front x (Some p) = ap (λ xs. Some (xs, p.1)) (sym (append_assoc front (x ∷ []) p.0))

-- where the others fail, all do
pub fails : {X : Type 0} (flats : List X → List Mark) (others whole : Reading (List X)) (old new : List Mark) (len : ℕ) → Progress flats others whole old new len → others ≡ None → whole ≡ None
fails flats others whole old new len p e = sym p.so_far ∙ ap (λ o. with_front p.front o) e

-- one part more
pub goes_further : {X : Type 0} (flats : List X → List Mark) (one : X → List Mark) → ((xs : List X) (x : X) → flats (xs ++ x ∷ []) ≡ flats xs ++ one x)
    → (others later whole : Reading (List X)) (old new newer : List Mark) (len : ℕ) (x : X)
    → Progress flats others whole old new len → others ≡ with_first x later → newer ≡ new ++ one x → Progress flats later whole old newer (len + 1)
goes_further flats one law others later whole old new newer len x p e n = record {
  front = p.front ++ x ∷ [];
  so_far = sym (regroup p.front x later) ∙ (ap (λ o. with_front p.front o) (sym e) ∙ p.so_far);
  nodes = n ∙ (ap (λ m. m ++ one x) p.nodes ∙ (append_assoc old (flats p.front) (one x) ∙ ap (λ m. old ++ m) (sym (law p.front x))));
  count = ap (λ k. k + 1) p.count ∙ sym (length-append p.front (x ∷ []));
}

-- the last part: what was read, and its nodes
pub record Done {X : Type 0} (flats : List X → List Mark) (whole : Reading (List X)) (rest : List ℕ) (old newer : List Mark) (len : ℕ) : Type 0 where
  pub parts : List X
  pub was : whole ≡ Some (parts, rest)
  pub nodes : newer ≡ old ++ flats parts
  pub count : len ≡ length parts

-- the last part
pub ends : {X : Type 0} (flats : List X → List Mark) (one : X → List Mark) → ((xs : List X) (x : X) → flats (xs ++ x ∷ []) ≡ flats xs ++ one x)
    → (others whole : Reading (List X)) (rest : List ℕ) (old new newer : List Mark) (len : ℕ) (x : X)
    → Progress flats others whole old new len → others ≡ Some (x ∷ [], rest) → newer ≡ new ++ one x → Done flats whole rest old newer (len + 1)
ends flats one law others whole rest old new newer len x p e n = record {
  parts = p.front ++ x ∷ [];
  was = sym p.so_far ∙ ap (λ o. with_front p.front o) e;
  nodes = n ∙ (ap (λ m. m ++ one x) p.nodes ∙ (append_assoc old (flats p.front) (one x) ∙ ap (λ m. old ++ m) (sym (law p.front x))));
  count = ap (λ k. k + 1) p.count ∙ sym (length-append p.front (x ∷ []));
}

abbrev pub item_flats : List Tree → List Mark
item_flats ts = flat_items (items_from ts)

abbrev pub member_flats : List (List ℕ × Tree) → List Mark
member_flats ms = flat_members (members_from ms)

abbrev pub member_flat : (List ℕ × Tree) → List Mark
member_flat m = string m.0 ∷ flat m.1

-- the nodes of one item more
pub item_flats-push : (ts : List Tree) (t : Tree) → item_flats (ts ++ t ∷ []) ≡ item_flats ts ++ flat t
item_flats-push [] t = append-nil (flat t)
item_flats-push (u ∷ ts) t = ap (λ m. flat u ++ m) (item_flats-push ts t) ∙ sym (append_assoc (flat u) (item_flats ts) (flat t))

-- the nodes of one member more
pub member_flats-push : (ms : List (List ℕ × Tree)) (m : List ℕ × Tree) → member_flats (ms ++ m ∷ []) ≡ member_flats ms ++ member_flat m
member_flats-push [] m = ap (λ n. string m.0 ∷ n) (append-nil (flat m.1))
member_flats-push (l ∷ ms) m = ap (λ n. string l.0 ∷ n) (ap (λ n. flat l.1 ++ n) (member_flats-push ms m) ∙ sym (append_assoc (flat l.1) (member_flats ms) (member_flat m)))

-- as many items as trees
pub items_len-from : (ts : List Tree) → items_len (items_from ts) ≡ length ts
items_len-from [] = refl
items_len-from (t ∷ ts) = ap (λ n. suc n) (items_len-from ts)

-- as many members as pairs
pub members_len-from : (ms : List (List ℕ × Tree)) → members_len (members_from ms) ≡ length ms
members_len-from [] = refl
members_len-from (m ∷ ms) = ap (λ n. suc n) (members_len-from ms)

module _ {X : Type 0} (close : ℕ) (read : List ℕ → Reading X) (flats : List X → List Mark) (one : X → List Mark) (law : (xs : List X) (x : X) → flats (xs ++ x ∷ []) ≡ flats xs ++ one x) where
  fuel : (n len : ℕ) → len < n → n - len ≡ suc (n - (len + 1))
  fuel n len h = omega arith

  pub last_turn : (n len : ℕ) (b r s : List ℕ) (more : Bool) (whole : Reading (List X)) (old new newer : List Mark) (x : X) → len < n → Progress flats (parts_at close read (n - len) b) whole old new len
      → read b ≡ Some (x, r) → separator_at close r ≡ Some (more, s) → more ≡ false → newer ≡ new ++ one x → Done flats whole s old newer (len + 1)
  last_turn n len b r s more whole old new newer x h p e f m g =
      ends flats one law (parts_at close read (n - len) b) whole s old new newer len x p
      (ap (λ k. parts_at close read k b) (fuel n len h) ∙ parts_last close read (n - (len + 1)) b x r s e (f ∙ ap (λ k. Some (k, s)) m)) g

  pub next_turn : (n len : ℕ) (b r s : List ℕ) (more : Bool) (whole : Reading (List X)) (old new newer : List Mark) (x : X) → len < n → Progress flats (parts_at close read (n - len) b) whole old new len
      → read b ≡ Some (x, r) → separator_at close r ≡ Some (more, s) → more ≡ true → newer ≡ new ++ one x → Progress flats (parts_at close read (n - (len + 1)) s) whole old newer (len + 1)
  next_turn n len b r s more whole old new newer x h p e f m g =
      goes_further flats one law (parts_at close read (n - len) b) (parts_at close read (n - (len + 1)) s) whole old new newer len x p
      (ap (λ k. parts_at close read k b) (fuel n len h) ∙ parts_more close read (n - (len + 1)) b x r s e (f ∙ ap (λ k. Some (k, s)) m)) g
