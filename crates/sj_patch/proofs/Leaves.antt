-- Changes at one token.
use Rattle.std.proofs.Common.{◌≡◌, ℕ, ◌≤◌, List, [], ◌∷◌, option_map, Some, None, Ok, Err, sym, ap, ◌∙◌}
use Rattle.sj_text_core.specs.Tree.{Tree, list, obj, Items, items_len, Members}
use Rattle.sj_text_core.specs.Find.{find_member, nth, nth_item}
use Rattle.sj_text_core.specs.Edits.{put, cut}
use Rattle.sj_text_core.specs.Places.{position_of}
use Rattle.sj_text_core.specs.Paths.{by_token, set_found}
use Rattle.sj_text_core.specs.declared.repeats.Repeats.TheVariants.{First}
use Rattle.sj_document.specs.Document.{document_tree}
use Rattle.sj_document.specs.declared.value.Document.{Document}
use Rattle.sj_pointer.specs.Pointed.{token_into}
use Rattle.sj_document.specs.Items.{insert_at, remove_at}
use Rattle.sj_patch.specs.Patch.{or_missing, onwards, removed_in, removed_at, added_in, added_at, place_among}
use Rattle.sj_patch.specs.inner.Patch.{swapped_in}
use Rattle.sj_patch.specs.inner.Changed.{Does, without_item}
use Rattle.sj_text_core.specs.declared.patch_fault.OperationFault.TheVariants.{Missing, NoPlace}
use Rattle.sj_text_core.specs.inner.Find.{or_null}
use Rattle.sj_patch.specs.declared.change.Change.TheVariants.{Put}
use Rattle.sj_patch.specs.declared.reversal.Reversal.TheVariants as reversal
use Rattle.sj_text_core.proofs.Writes.{find-put_same}
use Rattle.sj_patch.proofs.Setting.{nth-insert}
use Rattle.sj_patch.proofs.Reverting.{swap_back, out_back, item_back}

pub removed_member : (k : List ℕ) (ms : Members) (u : Tree) → find_member k ms ≡ Some u → removed_in k (obj ms) ≡ Ok (obj (cut k ms))
removed_member k ms u f = ap (λ o. or_missing (option_map (λ _. obj (cut k ms)) o)) f

pub no_member : (k : List ℕ) (ms : Members) → find_member k ms ≡ None → removed_in k (obj ms) ≡ Err Missing
no_member k ms f = ap (λ o. or_missing (option_map (λ _. obj (cut k ms)) o)) f

pub removed_item : (k : List ℕ) (i : ℕ) (is : Items) (u : Tree) → position_of k ≡ Some i → nth_item i is ≡ Some u → removed_in k (list is) ≡ Ok (list (remove_at i is))
removed_item k i is u e f = ap (λ o. or_missing (removed_at o is)) e ∙ ap (λ o. or_missing (option_map (λ _. list (remove_at i is)) o)) f

pub no_item : (k : List ℕ) (i : ℕ) (is : Items) → position_of k ≡ Some i → nth_item i is ≡ None → removed_in k (list is) ≡ Err Missing
no_item k i is e f = ap (λ o. or_missing (removed_at o is)) e ∙ ap (λ o. or_missing (option_map (λ _. list (remove_at i is)) o)) f

pub item_out : (k : List ℕ) (i : ℕ) (is : Items) (u : Tree) → nth_item i is ≡ Some u → without_item i k (list is) ≡ Ok (list (remove_at i is))
item_out k i is u f = ap (λ o. or_missing (option_map (λ _. list (remove_at i is)) o)) f

pub no_item_out : (k : List ℕ) (i : ℕ) (is : Items) → nth_item i is ≡ None → without_item i k (list is) ≡ Err Missing
no_item_out k i is f = ap (λ o. or_missing (option_map (λ _. list (remove_at i is)) o)) f

pub swapped : (k : List ℕ) (v u t : Tree) → token_into First k t ≡ Some u → swapped_in v k t ≡ Ok (set_found (by_token k) v t)
swapped k v u t f = ap (λ o. onwards (or_missing o) (λ _. Ok (set_found (by_token k) v t))) f

pub not_swapped : (k : List ℕ) (v t : Tree) → token_into First k t ≡ None → swapped_in v k t ≡ Err Missing
not_swapped k v t f = ap (λ o. onwards (or_missing o) (λ _. Ok (set_found (by_token k) v t))) f

module _ {T : Type 0} (t : T → List ℕ) where
  -- what stood there, swapped
  pub swap_done : (k : List ℕ) (v : Tree) (old r : Document T) (before after : Tree) → r ≡ old → token_into First k before ≡ Some (document_tree t old) → after ≡ set_found (by_token k) v before
      → (swapped_in v k before ≡ Ok after) × (document_tree t r ≡ or_null (token_into First k before))
  swap_done k v old r before after q f e = let f' = f ∙ ap (λ d. Some (document_tree t d)) (sym q) in (swapped k v (document_tree t r) before f' ∙ ap Ok (sym e), sym (ap or_null f'))

  -- a new value of a member that was there
  pub member_put_over : (k : List ℕ) (v old : Document T) (ms : Members) (after : Tree) → find_member k ms ≡ Some (document_tree t old) → after ≡ obj (put k (document_tree t v) ms)
      → Does t (Put v) (k ∷ []) (obj ms) after (record { undo = reversal.Swap; taken = old })
  member_put_over k v old ms after f e = record {
    made = ap Ok (sym e);
    undo = ap (swapped_in (document_tree t old) k) e ∙ swap_back k (document_tree t old) (document_tree t v) (obj ms) f;
    answer = ap (λ u. or_null (token_into First k u)) e ∙ ap or_null (find-put_same k (document_tree t v) ms);
  }

  -- a new member
  pub member_put : (k : List ℕ) (v : Document T) (ms : Members) (after : Tree) (taken : Document T) → find_member k ms ≡ None → after ≡ obj (put k (document_tree t v) ms)
      → Does t (Put v) (k ∷ []) (obj ms) after (record { undo = reversal.Out; taken = taken })
  member_put k v ms after taken f e = record {
    made = ap Ok (sym e);
    undo = ap (removed_in k) e ∙ out_back k (document_tree t v) ms f;
    answer = ap (λ u. or_null (token_into First k u)) e ∙ ap or_null (find-put_same k (document_tree t v) ms);
  }

  -- a new item
  pub item_put : (k : List ℕ) (i : ℕ) (v : Document T) (is : Items) (after : Tree) (taken : Document T) → place_among (items_len is) k ≡ Some i → i ≤ items_len is → after ≡ list (insert_at i (document_tree t v) is)
      → Does t (Put v) (k ∷ []) (list is) after (record { undo = reversal.OutItem i; taken = taken })
  item_put k i v is after taken f h e = record {
    made = ap (λ o. added_at o (document_tree t v) is) f ∙ ap Ok (sym e);
    undo = ap (without_item i k) e ∙ item_back i k (document_tree t v) is h;
    answer = ap (λ u. or_null (nth i u)) e ∙ ap or_null (nth-insert i (document_tree t v) is h);
  }

  -- no place for an item
  pub item_not_put : (k : List ℕ) (v : Tree) (is : Items) → place_among (items_len is) k ≡ None → added_in v k (list is) ≡ Err NoPlace
  item_not_put k v is f = ap (λ o. added_at o v is) f
