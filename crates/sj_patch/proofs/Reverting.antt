-- What undoes a change in a container.
use Rattle.std.proofs.Common.{◌≡◌, ℕ, ◌≤◌, List, [], ◌∷◌, Option, Some, None, option_and_then, option_map, Result, Ok, refl, ap, ◌∙◌}
use Rattle.sj_text_core.specs.Tree.{Tree, list, obj, Items, Members, items_len}
use Rattle.sj_text_core.specs.Find.{find_member}
use Rattle.sj_text_core.specs.Edits.{put, cut}
use Rattle.sj_text_core.specs.Paths.{by_token, set_found, change_found}
use Rattle.sj_text_core.specs.declared.repeats.Repeats.TheVariants.{First}
use Rattle.sj_text_core.proofs.Paths.{found_same}
use Rattle.sj_pointer.specs.Pointed.{token_into, pointed, set_pointed}
use Rattle.sj_document.specs.Items.{insert_at, remove_at}
use Rattle.sj_patch.specs.Patch.{or_missing, onwards, within, removed_in, replaced}
use Rattle.sj_patch.specs.inner.Patch.{swapped_in}
use Rattle.sj_patch.specs.inner.Changed.{without_item}
use Rattle.sj_text_core.specs.declared.patch_fault.OperationFault.{OperationFault}
use Rattle.sj_text_core.specs.inner.Find.{or_null}
use Rattle.sj_text_core.proofs.Writes.{find-put_same, step_there, set_found-twice}
use Rattle.sj_patch.proofs.Setting.{cut-put, nth-insert, drop-insert}

-- what stood there, put back
pub swap_back : (k : List ℕ) (u v t : Tree) → token_into First k t ≡ Some u → swapped_in u k (set_found (by_token k) v t) ≡ Ok t
swap_back k u v t f =
    ap (λ o. onwards (or_missing o) (λ _. Ok (set_found (by_token k) u (set_found (by_token k) v t)))) (step_there (by_token k) v u t f)
    ∙ ap Ok (set_found-twice (by_token k) u v t ∙ found_same (by_token k) u t f)

swap_back_by : (o : Option Tree) (k : List ℕ) (v x before after : Tree) → token_into First k before ≡ o → onwards (or_missing o) (λ _. Ok (set_found (by_token k) v before)) ≡ Ok after → x ≡ or_null o → swapped_in x k after ≡ Ok before
swap_back_by None k v x before after f e q = cc
swap_back_by (Some u) k v x before after f e q =
    let set : after ≡ set_found (by_token k) v before = cc in
    ap (swapped_in x k) set ∙ ap (λ x. swapped_in x k (set_found (by_token k) v before)) q ∙ swap_back k u v before f

-- a swap of what another answered undoes that
pub swapped_back : (k : List ℕ) (v x before after : Tree) → swapped_in v k before ≡ Ok after → x ≡ or_null (token_into First k before) → swapped_in x k after ≡ Ok before
swapped_back k v x before after e q = swap_back_by (token_into First k before) k v x before after refl e q

-- a new member, taken out
pub out_back : (k : List ℕ) (v : Tree) (ms : Members) → find_member k ms ≡ None → removed_in k (obj (put k v ms)) ≡ Ok (obj ms)
out_back k v ms f = ap (λ o. or_missing (option_map (λ _. obj (cut k (put k v ms))) o)) (find-put_same k v ms) ∙ ap (λ ms. Ok (obj ms)) (cut-put k v ms f)

-- a new item, taken out
pub item_back : (i : ℕ) (k : List ℕ) (v : Tree) (is : Items) → i ≤ items_len is → without_item i k (list (insert_at i v is)) ≡ Ok (list is)
item_back i k v is h = ap (λ o. or_missing (option_map (λ _. list (remove_at i (insert_at i v is))) o)) (nth-insert i v is h) ∙ ap (λ is. Ok (list is)) (drop-insert i v is h)

-- a swap at tokens is a replacement
onwards_found : (p : Option Tree) (x : Tree) (g : Tree → Result Tree OperationFault) → onwards (onwards (or_missing p) (λ _. Ok x)) g ≡ onwards (or_missing p) (λ _. g x)
onwards_found None x g = refl
onwards_found (Some u) x g = refl

last_by : (k : List ℕ) (v t : Tree) (o : Option Tree)
    → onwards (or_missing o) (λ _. Ok (set_found (by_token k) v t)) ≡ onwards (or_missing (option_and_then (pointed []) o)) (λ _. Ok (change_found o (by_token k) (set_pointed [] v) t))
last_by k v t None = refl
last_by k v t (Some u) = refl

next_by : (k l : List ℕ) (ks : List (List ℕ)) (v t : Tree) (o : Option Tree) → ((u : Tree) → within (swapped_in v) l ks u ≡ replaced (l ∷ ks) v u)
    → onwards (or_missing o) (λ u. onwards (within (swapped_in v) l ks u) (λ w. Ok (set_found (by_token k) w t)))
    ≡ onwards (or_missing (option_and_then (pointed (l ∷ ks)) o)) (λ _. Ok (change_found o (by_token k) (set_pointed (l ∷ ks) v) t))
next_by k l ks v t None ih = refl
next_by k l ks v t (Some u) ih =
    ap (λ r. onwards r (λ w. Ok (set_found (by_token k) w t))) (ih u) ∙ onwards_found (pointed (l ∷ ks) u) (set_pointed (l ∷ ks) v u) (λ w. Ok (set_found (by_token k) w t))

pub swapped-replaced : (k : List ℕ) (ks : List (List ℕ)) (v t : Tree) → within (swapped_in v) k ks t ≡ replaced (k ∷ ks) v t
swapped-replaced k [] v t = last_by k v t (token_into First k t)
swapped-replaced k (l ∷ ks) v t = next_by k l ks v t (token_into First k t) (λ u. swapped-replaced l ks v u)
