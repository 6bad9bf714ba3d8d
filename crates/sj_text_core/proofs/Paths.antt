-- Paths in what is kept, and what is written where it stands already.
use Rattle.std.proofs.Common.{◌≡◌, ℕ, zero, suc, Bool, true, false, List, [], ◌∷◌, Option, Some, None, option_map, option_and_then, if◌then◌else◌, bytes_eq, refl, sym, ap, ◌∙◌}
use Rattle.std.proofs.lemmas.Option.{same_Some}
use Rattle.sj_text_core.specs.Tree.{Tree, null, boolean, int, text, list, obj, Items, no_items, item, Members, no_members, member}
use Rattle.sj_text_core.specs.Find.{find_member, nth, nth_item}
use Rattle.sj_text_core.specs.Keep.{keep}
use Rattle.sj_text_core.specs.Edits.{put}
use Rattle.sj_text_core.specs.Places.{position_of}
use Rattle.sj_text_core.specs.Paths.{Step, by_key, by_place, by_token, token_into_by, step_into, step_into_by, tree_at, tree_at_by, set_item, set_placed, set_found}
use Rattle.sj_text_core.specs.Repeats.{keep_by, keep_last, keep_last_items}
use Rattle.sj_text_core.specs.declared.repeats.Repeats.{Repeats}
use Rattle.sj_text_core.specs.declared.repeats.Repeats.TheVariants.{First, Last}
use Rattle.sj_text_core.proofs.Finds.{nth-keep}
use Rattle.sj_text_core.proofs.Single.{find-keep_by}

nth_item-keep_last : (i : ℕ) (is : Items) → nth_item i (keep_last_items is) ≡ option_map keep_last (nth_item i is)
nth_item-keep_last i no_items = refl
nth_item-keep_last zero (item t is) = refl
nth_item-keep_last (suc i) (item t is) = nth_item-keep_last i is

nth-keep_by : (c : Repeats) (i : ℕ) (t : Tree) → nth i (keep_by c t) ≡ option_map (keep_by c) (nth i t)
nth-keep_by First i t = nth-keep i t
nth-keep_by Last i null = refl
nth-keep_by Last i (boolean b) = refl
nth-keep_by Last i (int n c) = refl
nth-keep_by Last i (text s) = refl
nth-keep_by Last i (list is) = nth_item-keep_last i is
nth-keep_by Last i (obj ms) = refl

placed-keep_by : (c : Repeats) (o : Option ℕ) (t : Tree) → option_and_then (λ i. nth i (keep_by c t)) o ≡ option_map (keep_by c) (option_and_then (λ i. nth i t) o)
placed-keep_by c None t = refl
placed-keep_by c (Some i) t = nth-keep_by c i t

token-keep_by : (c : Repeats) (k : List ℕ) (t : Tree) → token_into_by First k (keep_by c t) ≡ option_map (keep_by c) (token_into_by c k t)
token-keep_by First k null = refl
token-keep_by First k (boolean b) = refl
token-keep_by First k (int n d) = refl
token-keep_by First k (text s) = refl
token-keep_by First k (list is) = placed-keep_by First (position_of k) (list is)
token-keep_by First k (obj ms) = find-keep_by First k (obj ms)
token-keep_by Last k null = refl
token-keep_by Last k (boolean b) = refl
token-keep_by Last k (int n d) = refl
token-keep_by Last k (text s) = refl
token-keep_by Last k (list is) = placed-keep_by Last (position_of k) (list is)
token-keep_by Last k (obj ms) = find-keep_by Last k (obj ms)

step_into-keep_by : (c : Repeats) (s : Step) (t : Tree) → step_into s (keep_by c t) ≡ option_map (keep_by c) (step_into_by c s t)
step_into-keep_by c (by_key k) t = find-keep_by c k t
step_into-keep_by c (by_place i) t = nth-keep_by c i t
step_into-keep_by c (by_token k) t = token-keep_by c k t

onwards : (c : Repeats) (p : List Step) (r : Option Tree) → ((u : Tree) → tree_at p (keep_by c u) ≡ option_map (keep_by c) (tree_at_by c p u))
    → option_and_then (λ u. tree_at p u) (option_map (keep_by c) r) ≡ option_map (keep_by c) (option_and_then (λ u. tree_at_by c p u) r)
onwards c p None e = refl
onwards c p (Some u) e = e u

-- what stands at a path in what is kept is what the path leads to by the choice, kept
pub tree_at-keep_by : (c : Repeats) (p : List Step) (t : Tree) → tree_at p (keep_by c t) ≡ option_map (keep_by c) (tree_at_by c p t)
tree_at-keep_by c [] t = refl
tree_at-keep_by c (s ∷ p) t = ap (option_and_then (λ u. tree_at p u)) (step_into-keep_by c s t) ∙ onwards c p (step_into_by c s t) (λ u. tree_at-keep_by c p u)

pub tree_at-keep : (p : List Step) (t : Tree) → tree_at p (keep t) ≡ option_map keep (tree_at p t)
tree_at-keep p t = tree_at-keep_by First p t

put_by : (b : Bool) (k l : List ℕ) (u t : Tree) (ms : Members) → (if b then Some t else find_member k ms) ≡ Some u → (find_member k ms ≡ Some u → put k u ms ≡ ms)
    → (if b then member l u ms else member l t (put k u ms)) ≡ member l t ms
put_by true k l u t ms e ih = ap (λ x. member l x ms) (sym (same_Some t u e))
put_by false k l u t ms e ih = ap (member l t) (ih e)

pub put_same : (k : List ℕ) (u : Tree) (ms : Members) → find_member k ms ≡ Some u → put k u ms ≡ ms
put_same k u no_members e = cc
put_same k u (member l t ms) e = put_by (bytes_eq k l) k l u t ms e (put_same k u ms)

set_same : (i : ℕ) (u : Tree) (is : Items) → nth_item i is ≡ Some u → set_item i u is ≡ is
set_same i u no_items e = refl
set_same zero u (item t is) e = ap (λ x. item x is) (sym (same_Some t u e))
set_same (suc i) u (item t is) e = ap (item t) (set_same i u is e)

placed_same : (o : Option ℕ) (u : Tree) (is : Items) → option_and_then (λ i. nth i (list is)) o ≡ Some u → set_placed o u is ≡ is
placed_same None u is e = refl
placed_same (Some i) u is e = set_same i u is e

-- what stands there already changes nothing
pub found_same : (s : Step) (u t : Tree) → step_into s t ≡ Some u → set_found s u t ≡ t
found_same (by_key k) u null e = refl
found_same (by_key k) u (boolean b) e = refl
found_same (by_key k) u (int n c) e = refl
found_same (by_key k) u (text x) e = refl
found_same (by_key k) u (list is) e = refl
found_same (by_key k) u (obj ms) e = ap obj (put_same k u ms e)
found_same (by_place i) u null e = refl
found_same (by_place i) u (boolean b) e = refl
found_same (by_place i) u (int n c) e = refl
found_same (by_place i) u (text x) e = refl
found_same (by_place i) u (list is) e = ap list (set_same i u is e)
found_same (by_place i) u (obj ms) e = refl
found_same (by_token k) u null e = refl
found_same (by_token k) u (boolean b) e = refl
found_same (by_token k) u (int n c) e = refl
found_same (by_token k) u (text x) e = refl
found_same (by_token k) u (list is) e = ap list (placed_same (position_of k) u is e)
found_same (by_token k) u (obj ms) e = ap obj (put_same k u ms e)
