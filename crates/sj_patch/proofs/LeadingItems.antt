-- Operations that lead from one array to another, item by item.
use Rattle.std.proofs.Common.{◌≡◌, ℕ, ◌≤◌, List, [], ◌∷◌, ◌++◌, map, length, Some, option_map, option_and_then, refl, ap, ◌∙◌, subst, arith}
use Rattle.sj_text_core.specs.Tree.{Tree, list, item, items_len, items_from}
use Rattle.sj_text_core.specs.Find.{nth, nth_item}
use Rattle.sj_text_core.specs.Same.{Same}
use Rattle.sj_text_core.specs.Keep.{IsSingle}
use Rattle.sj_text_core.specs.Places.{position_of}
use Rattle.sj_text_core.specs.Paths.{by_token, set_item, set_placed, change_found}
use Rattle.sj_text_core.proofs.Equality.{same-refl}
use Rattle.sj_pointer.specs.Pointed.{pointed, set_pointed}
use Rattle.sj_document.specs.Items.{insert_at, remove_at}
use Rattle.sj_patch.specs.Patch.{PlainOperation, add, remove, or_missing, added_at, removed_at, next, patched_from}
use Rattle.sj_patch.specs.Locality.{under}
use Rattle.sj_patch.proofs.SingleEdits.{single-insert_at, single-remove_at}
use Rattle.sj_patch.proofs.Renewing.{among}
use Rattle.sj_patch.specs.inner.Noted.{Leads, array}
use Rattle.sj_patch.proofs.Leading.{leads-below, leads-join}

-- an edit behind items
nth-behind : (u : Tree) (done rest : List Tree) → nth_item (length done) (items_from (done ++ u ∷ rest)) ≡ Some u
nth-behind u [] rest = refl
nth-behind u (t ∷ done) rest = nth-behind u done rest

set-behind : (u w : Tree) (done rest : List Tree) → set_item (length done) w (items_from (done ++ u ∷ rest)) ≡ items_from (done ++ w ∷ rest)
set-behind u w [] rest = refl
set-behind u w (t ∷ done) rest = ap (item t) (set-behind u w done rest)

remove-behind : (u : Tree) (done rest : List Tree) → remove_at (length done) (items_from (done ++ u ∷ rest)) ≡ items_from (done ++ rest)
remove-behind u [] rest = refl
remove-behind u (t ∷ done) rest = ap (item t) (remove-behind u done rest)

insert-behind : (v : Tree) (done rest : List Tree) → insert_at (length done) v (items_from (done ++ rest)) ≡ items_from (done ++ v ∷ rest)
insert-behind v [] [] = refl
insert-behind v [] (t ∷ rest) = refl
insert-behind v (t ∷ done) rest = ap (item t) (insert-behind v done rest)

room-behind : (done rest : List Tree) → length done ≤ items_len (items_from (done ++ rest))
room-behind [] rest = omega arith
room-behind (t ∷ done) rest = let h = room-behind done rest in omega (arith, h)

module _ (k : List ℕ) (done rest : List Tree) (named : position_of k ≡ Some (length done)) where
  -- an item changed
  pub leads-item : (ops : List PlainOperation) (u w : Tree) → IsSingle (array (done ++ u ∷ rest)) → Leads ops u w → Leads (map (under (k ∷ [])) ops) (array (done ++ u ∷ rest)) (array (done ++ w ∷ rest))
  leads-item ops u w x h =
      let t = array (done ++ u ∷ rest) in
      let f = ap (λ o. option_and_then (λ i. nth i t) o) named ∙ nth-behind u done rest in
      subst (Leads (map (under (k ∷ [])) ops) t)
      (ap (λ o. change_found o (by_token k) (set_pointed [] w) t) f ∙ ap (λ o. list (set_placed o w (items_from (done ++ u ∷ rest)))) named ∙ ap list (set-behind u w done rest))
      (leads-below k [] ops t u w x (ap (option_and_then (pointed [])) f) h)

  -- an item gone
  pub leads-removed : (u : Tree) → IsSingle (array (done ++ u ∷ rest)) → Leads (remove (k ∷ []) ∷ []) (array (done ++ u ∷ rest)) (array (done ++ rest))
  leads-removed u x =
      let is = items_from (done ++ u ∷ rest) in
      let left = remove_at (length done) is in
      subst (Leads (remove (k ∷ []) ∷ []) (list is)) (ap list (remove-behind u done rest)) (record {
        values = (tt, tt);
        below = (λ q. cc, tt);
        single = x;
        to_single = single-remove_at (length done) is x;
        becomes = (
          list left,
          (
            ap (λ o. next 0 (or_missing (removed_at o is)) (patched_from 1 [])) named ∙ ap (λ o. next 0 (or_missing (option_map (λ _. list left) o)) (patched_from 1 [])) (nth-behind u done rest),
            same-refl (list left),
          ),
        );
      })

  -- a new item
  pub leads-inserted : (v : Tree) → IsSingle (array (done ++ rest)) → IsSingle v → Leads (add (k ∷ []) v ∷ []) (array (done ++ rest)) (array (done ++ v ∷ rest))
  leads-inserted v x y =
      let is = items_from (done ++ rest) in
      let more = insert_at (length done) v is in
      subst (Leads (add (k ∷ []) v ∷ []) (list is)) (ap list (insert-behind v done rest)) (record {
        values = (y, tt);
        below = (λ q. cc, tt);
        single = x;
        to_single = single-insert_at (length done) v is y x;
        becomes = (list more, (ap (λ o. next 0 (added_at o v is) (patched_from 1 [])) (among (items_len is) (length done) k named (room-behind done rest)), same-refl (list more)));
      })

-- one item more, behind those that are done
module _ (ops : List PlainOperation) (start : Tree) (k : List ℕ) (done rest : List Tree) (named : position_of k ≡ Some (length done)) where
  pub next-item : (sub : List PlainOperation) (u w : Tree) → Leads sub u w → Leads ops start (array (done ++ u ∷ rest)) → Leads (ops ++ map (under (k ∷ [])) sub) start (array (done ++ w ∷ rest))
  next-item sub u w s h = leads-join ops (map (under (k ∷ [])) sub) start (array (done ++ u ∷ rest)) (array (done ++ w ∷ rest)) h (leads-item k done rest named sub u w h.to_single s)

-- arrays that are the same in two parts
pub same-array : (xs ys vs ws : List Tree) → Same (array xs) (array ys) → Same (array vs) (array ws) → Same (array (xs ++ vs)) (array (ys ++ ws))
same-array [] [] vs ws h i = i
same-array [] (y ∷ ys) vs ws h i = cc
same-array (x ∷ xs) [] vs ws h i = absurd h
same-array (x ∷ xs) (y ∷ ys) vs ws h i = (h.0, same-array xs ys vs ws h.1 i)
