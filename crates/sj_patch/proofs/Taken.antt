-- What is taken out of a container, and goes back in a room.
use Rattle.std.proofs.Common.{◌≡◌, ◌<◌, ◌≤◌, ◌&&◌, ℕ, true, not, suc, Global, Vec, List, ◌∷◌, [], get_or, length, option_map, option_and_then, Ok, Some, sym, ap, ◌∙◌, arith}
use Rattle.std.specs.List.{insert, remove}
use Rattle.std.specs.Option.{is_some}
use Rattle.std.specs.Vec.{vec_capacity}
use Rattle.sj_text_core.specs.Tree.{list, obj, items_len, members_len}
use Rattle.sj_text_core.specs.Find.{find_member, nth, nth_item}
use Rattle.sj_text_core.specs.Edits.{cut}
use Rattle.sj_text_core.specs.Places.{position_of}
use Rattle.sj_object.specs.Edits.{lookup, cut_entry}
use Rattle.sj_object.specs.Entries.{Entry, entry_texts}
use Rattle.sj_object.specs.Members.{entry_members}
use Rattle.sj_object.specs.Rooms.{places}
use Rattle.sj_object.specs.Texts.{no_repeats}
use Rattle.sj_object.specs.declared.map.kept_room.Room.{Room}
use Rattle.sj_object.proofs.Shown.{lookup-entry_members, entry_members-cut, length-members}
use Rattle.sj_document.specs.Document.{document_tree}
use Rattle.sj_document.specs.declared.value.Document.{Document}
use Rattle.sj_document.specs.Items.{remove_at}
use Rattle.sj_document.proofs.Arrays.{items_seen, item_at, length-items}
use Rattle.sj_document.proofs.Placed.{items-remove}
use Rattle.sj_patch.specs.inner.Changed.{Does, is_placed, item_back}
use Rattle.sj_patch.specs.declared.change.Change.TheVariants.{Take}
use Rattle.sj_patch.specs.declared.reversal.Reversal.TheVariants as reversal
use Rattle.sj_patch.proofs.Leaves.{removed_item, removed_member}
use Rattle.sj_patch.proofs.Backs.{so, placed, gone, insert-remove, remove-len, found-within, entries-longer, members-insert}

module _ {T : Type 0} (t : T → List ℕ) where
  -- an item, where the room takes all
  pub took_item : (k : List ℕ) (i : ℕ) (vs ws : List (Document T)) (room : Vec (Document T) Global) (v : Document T) → position_of k ≡ Some i → i < length vs → v ≡ get_or vs i v → ws ≡ remove vs i → length vs ≤ vec_capacity room
      → Does t Take (k ∷ []) (list (items_seen t vs)) (list (items_seen t ws)) (record { undo = reversal.ItemBack room i; taken = v })
  took_item k i vs ws room v p l e w r =
      let is = items_seen t vs in
      let n = vec_capacity room in
      let u = document_tree t v in
      let found : nth_item i is ≡ Some u = item_at t vs i v l e in
      let rest : items_seen t ws ≡ remove_at i is = ap (items_seen t) w ∙ items-remove t vs i in
      let shorter = remove-len i u is found in
      let size : items_len is ≡ length vs = sym (length-items (document_tree t) vs) in
      let q : is_placed (items_len (remove_at i is)) n i ≡ true = placed _ n i (omega (arith, shorter, size, r)) (omega (arith, shorter, found-within i u is found)) in
      record {
        made = removed_item k i is u p found ∙ ap (λ is. Ok (list is)) (sym rest);
        undo = ap (λ is. item_back n i u k (list is)) rest ∙ so _ _ q ∙ ap (λ is. Ok (list is)) (insert-remove i u is found);
        answer = ap (option_and_then (λ v. Some v)) (ap (option_and_then (λ i. nth i (list is))) p ∙ found);
      }

  -- a member, where the room takes all
  pub took_member : (k : List ℕ) (i : ℕ) (es fs : List (Entry T (Document T))) (room : Room T (Document T)) (l : T) (v : Document T) → Some v ≡ lookup k es → fs ≡ cut_entry k es → insert fs i ((l, t l), v) ≡ es → i ≤ length fs → no_repeats (entry_texts es) ≡ true → length es ≤ places room
      → Does t Take (k ∷ []) (obj (entry_members (document_tree t) es)) (obj (entry_members (document_tree t) fs)) (record { undo = reversal.MemberBack room i l; taken = v })
  took_member k i es fs room l v answer entries back within distinct r =
      let u = document_tree t v in
      let ms = entry_members (document_tree t) es in
      let rest = entry_members (document_tree t) fs in
      let n = places room in
      let e : Entry T (Document T) = ((l, t l), v) in
      let found : find_member k ms ≡ Some u = sym (lookup-entry_members (document_tree t) k es) ∙ ap (option_map (document_tree t)) (sym answer) in
      let cut_is : rest ≡ cut k ms = ap (entry_members (document_tree t)) entries ∙ entry_members-cut (document_tree t) k es in
      let size : members_len rest ≡ length fs = sym (length-members (document_tree t) fs) in
      let longer : suc (length fs) ≡ length es = sym (entries-longer fs i e) ∙ ap length back in
      let q : is_placed (members_len rest) n i ≡ true = placed _ n i (omega (arith, size, longer, r)) (omega (arith, size, within)) in
      let none = gone (document_tree t) es fs i e back distinct in
      record {
        made = removed_member k ms u found ∙ ap (λ ms. Ok (obj ms)) (sym cut_is);
        undo = so _ _ (λ j. q j && not (is_some (none j))) ∙ ap (λ ms. Ok (obj ms)) (sym (members-insert (document_tree t) fs i e within) ∙ ap (entry_members (document_tree t)) back);
        answer = ap (option_and_then (λ v. Some v)) found;
      }
