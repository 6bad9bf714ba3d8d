-- The walk.
use Rattle.std.proofs.Common.{◌≡◌, ℕ, Bool, true, false, cond, List, [], ◌∷◌, ◌++◌, map, reverse, bytes_eq, refl, sym, ap, ◌∙◌}
use Rattle.std.proofs.lemmas.List.{map-append, reverse-append}
use Rattle.std.proofs.lemmas.List.MinMax.{ranks_by}
use Rattle.std.specs.Cmp.{IsStrictWeakOrder}
use Rattle.std.proofs.lemmas.Cmp.{nat_list_cmp_total}
use Rattle.std.specs.Prelude.{if◌then◌else◌}
use Rattle.sj_text_core.specs.Tree.{Tree}
use Rattle.sj_canonical.specs.Canonical.{units, is_before}
use Rattle.std.specs.List.{dedup, dedup_from}
use Rattle.sj_text_core.specs.declared.repeats.Repeats.{Repeats}
use Rattle.sj_text_core.specs.declared.repeats.Repeats.TheVariants.{First, Last}
use Rattle.sj_canonical.specs.inner.Picks.{sorted_in, sorted, thinned, thinned_from, by_choice}
use Rattle.sj_canonical.specs.inner.Walks.{pair_of}
use Rattle.sj_canonical.proofs.Sorted.{inserted, in_order}

map-reverse : {A B : Type 0} (f : A → B) (xs : List A) → map f (reverse xs) ≡ reverse (map f xs)
map-reverse f [] = refl
map-reverse f (x ∷ xs) =
    ap (map f) (reverse-append (x ∷ []) xs) ∙ map-append f (reverse xs) (x ∷ []) ∙ ap (λ l. l ++ f x ∷ []) (map-reverse f xs) ∙ sym (reverse-append (f x ∷ []) (map f xs))

module _ {K V : Type 0} (key : K → List ℕ) (tree : V → Tree) where
  -- the order of the pairs by their texts
  abbrev pub by_key : K × V → K × V → Bool
  by_key p q = is_before (key p.0) (key q.0)

  pub by_key-order : IsStrictWeakOrder by_key
  by_key-order = ranks_by nat_list_cmp_total (λ (p : K × V). units (key p.0))

  inserted-pairs : (p : K × V) (ps : List (K × V)) → map (pair_of key tree) (inserted by_key p ps) ≡ sorted_in (pair_of key tree p) (map (pair_of key tree) ps)
  inserted-pairs p [] = refl
  inserted-pairs p (q ∷ ps) = by_test (by_key q p) (inserted-pairs p ps)
    where
      by_test : (b : Bool) → map (pair_of key tree) (inserted by_key p ps) ≡ sorted_in (pair_of key tree p) (map (pair_of key tree) ps)
          → map (pair_of key tree) (if b then q ∷ inserted by_key p ps else p ∷ q ∷ ps) ≡ (if b then pair_of key tree q ∷ sorted_in (pair_of key tree p) (map (pair_of key tree) ps) else pair_of key tree p ∷ pair_of key tree q ∷ map (pair_of key tree) ps)
      by_test true e = ap (λ l. pair_of key tree q ∷ l) e
      by_test false e = refl

  pub in_order-pairs : (ps : List (K × V)) → map (pair_of key tree) (in_order by_key ps) ≡ sorted (map (pair_of key tree) ps)
  in_order-pairs [] = refl
  in_order-pairs (p ∷ ps) = inserted-pairs p (in_order by_key ps) ∙ ap (sorted_in (pair_of key tree p)) (in_order-pairs ps)

  abbrev pub same_key : K × V → K × V → Bool
  same_key p q = bytes_eq (key p.0) (key q.0)

  pairs-deduped_from : (p : K × V) (ps : List (K × V)) → map (pair_of key tree) (dedup_from same_key p ps) ≡ thinned_from (pair_of key tree p) (map (pair_of key tree) ps)
  pairs-deduped_from p [] = refl
  pairs-deduped_from p (q ∷ ps) = by_test (same_key q p) (pairs-deduped_from p ps) (pairs-deduped_from q ps)
    where
      by_test : (b : Bool) → map (pair_of key tree) (dedup_from same_key p ps) ≡ thinned_from (pair_of key tree p) (map (pair_of key tree) ps)
          → map (pair_of key tree) (dedup_from same_key q ps) ≡ thinned_from (pair_of key tree q) (map (pair_of key tree) ps)
          → map (pair_of key tree) (cond b (dedup_from same_key p ps) (p ∷ dedup_from same_key q ps))
          ≡ (if b then thinned_from (pair_of key tree p) (map (pair_of key tree) ps) else pair_of key tree p ∷ thinned_from (pair_of key tree q) (map (pair_of key tree) ps))
      by_test true e f = e
      by_test false e f = ap (λ l. pair_of key tree p ∷ l) f

  pub pairs-deduped : (ps : List (K × V)) → map (pair_of key tree) (dedup same_key ps) ≡ thinned (map (pair_of key tree) ps)
  pairs-deduped [] = refl
  pairs-deduped (p ∷ ps) = pairs-deduped_from p ps

  pub pairs-choice : (c : Repeats) (ps : List (K × V)) → map (pair_of key tree) (by_choice c ps) ≡ by_choice c (map (pair_of key tree) ps)
  pairs-choice First ps = refl
  pairs-choice Last ps = map-reverse (pair_of key tree) ps
