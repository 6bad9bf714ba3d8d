-- Where the items of an array begin among its nodes.
use Rattle.std.specs.Prelude.{slice_get}
use Rattle.std.proofs.Common.{◌≡◌, ℕ, Some, None, ◌++◌, zero, suc, ◌+◌, ◌-◌, ◌*◌, ◌<◌, ◌≤◌, List, [], ◌∷◌, map, length, take, drop, get_or, inl, inr, refl, sym, ap, ◌∙◌, subst, arith, length-append}
use Rattle.std.proofs.lemmas.List.{length-drop, length-map, get_or_append_left, get_or-drop, get_or-map, take-append-drop, drop-drop}
use Rattle.std.proofs.lemmas.Option.{slice_get_past}
use Rattle.std.proofs.Math.Seq.{get_or-append_seam}
use Rattle.std.proofs.lemmas.Bool.{cases_lt}
use Rattle.sj_text_core.specs.Tree.{Tree, Items, items_len, items_from, listed}
use Rattle.sj_text_core.specs.Find.{nth_item}
use Rattle.sj_text_core.proofs.Shapes.{items_from-listed}
use Rattle.sj_text_core.specs.Nodes.{Mark, nothing, width, flat_items, tree_of, IsPreorder}
use Rattle.sj_tape.specs.inner.Fronts.{BeginsTree}
use Rattle.sj_tape.specs.Parts.{items_in}
use Rattle.sj_tape.specs.inner.Parts.{AreItemNodes, ItemsFrom}
use Rattle.sj_tape.specs.inner.Places.{ArePlaces, item_at}
use Rattle.sj_tape.proofs.Compared.{length-listed}
use Rattle.sj_tape.proofs.Splits.{some_width, first_width, BeginsTree-items, items_len-le, next_item, slice_get-listed}

pub first_place : (ns : List Mark) → AreItemNodes ns → ItemsFrom ns 0 0
first_place ns a = record { inside = omega arith; are = a; items = refl }

has_item : (ns : List Mark) (i place : ℕ) → ItemsFrom ns i place → i < items_len (items_in ns) → 0 < length (drop place ns)
has_item ns i place h more =
    let l = drop place ns in
    let left : 0 < items_len (items_in l) =
    omega (arith, more, ap (λ (ts : List Tree). length ts) h.items, length-drop i (listed (items_in ns)), length-listed (items_in ns), length-listed (items_in l)) in
    omega (arith, left, items_len-le (items_in l), ap (λ (ms : List Mark). length ms) h.are)

-- where items are left, the first node says where the next one begins
pub record NextPlace (ns : List Mark) (i place : ℕ) : Type 0 where
  pub inside : place < length ns
  pub fits : place + width (get_or ns place nothing) ≤ length ns
  pub next : ItemsFrom ns (i + 1) (place + width (get_or ns place nothing))

pub next_place : (ns : List Mark) (i place n : ℕ) → ItemsFrom ns i place → i < n → n ≤ items_len (items_in ns) → NextPlace ns i place
next_place ns i place n h more some =
    let l = drop place ns in
    let long = has_item ns i place h (omega (arith, more, some)) in
    let first = first_width l (BeginsTree-items l h.are long) in
    let step = next_item l (take (width (get_or l 0 nothing)) l) (drop (width (get_or l 0 nothing)) l) h.are long first.whole (sym (take-append-drop (width (get_or l 0 nothing)) l)) in
    let same : width (get_or l 0 nothing) ≡ width (get_or ns place nothing) = ap width (get_or-drop place ns 0 nothing ∙ ap (λ k. get_or ns k nothing) (omega arith)) in
    let behind : drop (width (get_or l 0 nothing)) l ≡ drop (place + width (get_or ns place nothing)) ns = drop-drop (width (get_or l 0 nothing)) place ns ∙ ap (λ n. drop (place + n) ns) same in
    let lens = length-drop place ns in
    record {
      inside = omega (arith, long, lens);
      fits = omega (arith, first.fits, same, lens, h.inside);
      next = record {
        inside = omega (arith, first.fits, same, lens, h.inside);
        are = subst AreItemNodes behind step.rest_are;
        items = ap (λ ms. listed (items_in ms)) (sym behind) ∙ ap (λ is. drop 1 (listed is)) (sym step.items) ∙ ap (λ (ts : List Tree). drop 1 ts) h.items ∙ drop-drop 1 i (listed (items_in ns));
      };
    }

-- with as many nodes as items, each item is one node
pub single_place : (ns : List Mark) → AreItemNodes ns → length ns ≡ items_len (items_in ns) → (i : ℕ) → i ≤ length ns → ItemsFrom ns i i
single_place ns a one zero h = first_place ns a
single_place ns a one (suc i) h =
    let next = next_place ns i i (length ns) (single_place ns a one i (omega (arith, h))) (omega (arith, h)) (omega (arith, one)) in
    let l = drop (i + width (get_or ns i nothing)) ns in
    let left : items_len (items_in l) ≡ length ns - (i + 1) =
    omega (arith, one, ap (λ (ts : List Tree). length ts) next.next.items, length-drop (i + 1) (listed (items_in ns)), length-listed (items_in ns), length-listed (items_in l)) in
    let enough : items_len (items_in l) ≤ length l = omega (arith, items_len-le (items_in l), ap (λ (ms : List Mark). length ms) next.next.are) in
    let single : i + width (get_or ns i nothing) ≡ suc i = omega (arith, left, enough, next.fits, length-drop (i + width (get_or ns i nothing)) ns, some_width (get_or ns i nothing)) in
    subst (λ p. ItemsFrom ns (suc i) p) single (subst (λ k. ItemsFrom ns k (i + width (get_or ns i nothing))) (omega arith) next.next)

-- an item begins where the widths in front of it end
pub item_from : (ns : List Mark) → AreItemNodes ns → (i : ℕ) → i ≤ items_len (items_in ns) → ItemsFrom ns i (item_at ns i)
unfolding item_at
item_from ns a zero l = first_place ns a
item_from ns a (suc i) l =
    let next = next_place ns i (item_at ns i) (items_len (items_in ns)) (item_from ns a i (omega (arith, l))) (omega (arith, l)) (omega arith) in
    subst (λ k. ItemsFrom ns k (item_at ns i + width (get_or ns (item_at ns i) nothing))) (omega arith) next.next

-- an item begins at one place alone
pub one_place : (ns : List Mark) (i p q : ℕ) → ItemsFrom ns i p → ItemsFrom ns i q → p ≡ q
one_place ns i p q h k =
    let same : items_in (drop p ns) ≡ items_in (drop q ns) = sym (items_from-listed (items_in (drop p ns))) ∙ ap items_from (h.items ∙ sym k.items) ∙ items_from-listed (items_in (drop q ns)) in
    let long = ap (λ (ms : List Mark). length ms) (h.are ∙ ap flat_items same ∙ sym k.are) in
    omega (arith, long, length-drop p ns, length-drop q ns, h.inside, k.inside)

-- one place more is kept
pub kept_with : (ns : List Mark) (places more : List ℕ) (place : ℕ) → more ≡ places ++ place ∷ [] → place ≡ item_at ns (length places * 64) → ArePlaces ns places → ArePlaces ns more
kept_with ns places more place e here there j l = elim (cases_lt j (length places)) [
  | inl low ↦ ap (λ ps. get_or ps j 0) e ∙ get_or_append_left places (place ∷ []) 0 j low ∙ there j low
  | inr high ↦
      let last : j ≡ length places = omega (arith, l, high, ap (λ (ps : List ℕ). length ps) e, length-append places (place ∷ [])) in
      ap (λ ps. get_or ps j 0) e ∙ ap (λ k. get_or (places ++ place ∷ []) k 0) last ∙ get_or-append_seam places place [] 0 ∙ here ∙ ap (λ k. item_at ns (k * 64)) (sym last)
]

-- the same of nodes in any form, where the first one is x
pub record NextNode {X : Type 0} (f : X → Mark) (xs : List X) (i place : ℕ) (x : X) : Type 0 where
  pub there : width (get_or (map f xs) place nothing) ≡ width (f x)
  pub fits : place + width (f x) ≤ length xs
  pub next : ItemsFrom (map f xs) (i + 1) (place + width (f x))

pub next_node : {X : Type 0} (f : X → Mark) (xs : List X) (i place n : ℕ) (x : X) → x ≡ get_or xs place x → ItemsFrom (map f xs) i place → i < n → n ≤ items_len (items_in (map f xs)) → NextNode f xs i place x
next_node f xs i place n x e h more some =
    let next = next_place (map f xs) i place n h more some in
    let long = length-map xs f in
    let node : width (get_or (map f xs) place nothing) ≡ width (f x) = ap width (get_or-map f xs place x nothing (omega (arith, next.inside, long)) ∙ ap f (sym e)) in
    record {
      there = node;
      fits = omega (arith, next.fits, node, long);
      next = subst (λ w. ItemsFrom (map f xs) (i + 1) (place + w)) node next.next;
    }

slice_get-drop : {X : Type 0} (xs : List X) (i : ℕ) → slice_get xs i ≡ slice_get (drop i xs) 0
slice_get-drop [] zero = refl
slice_get-drop [] (suc i) = refl
slice_get-drop (x ∷ xs) zero = refl
slice_get-drop (x ∷ xs) (suc i) = slice_get-drop xs i

-- the item at position i is the tree that begins at its place
pub record ItemThere (ns : List Mark) (i place : ℕ) : Type 0 where
  pub begins : BeginsTree (drop place ns)
  pub item : (first rest : List Mark) → IsPreorder first → drop place ns ≡ first ++ rest → nth_item i (items_in ns) ≡ Some (tree_of first)

pub item_there : (ns : List Mark) (i place : ℕ) → ItemsFrom ns i place → i < items_len (items_in ns) → ItemThere ns i place
item_there ns i place h more =
    let long = has_item ns i place h more in
    record {
      begins = BeginsTree-items (drop place ns) h.are long;
      item = λ first rest p e.
          sym (slice_get-listed (items_in ns) i) ∙ slice_get-drop (listed (items_in ns)) i ∙ ap (λ (ts : List Tree). slice_get ts 0) (sym h.items)
          ∙ ap (λ is. slice_get (listed is) 0) (next_item (drop place ns) first rest h.are long p e).items;
    }

pub no_item : (is : Items) (i : ℕ) → items_len is ≤ i → nth_item i is ≡ None
no_item is i h = sym (slice_get-listed is i) ∙ slice_get_past (listed is) i (omega (arith, h, length-listed is))
