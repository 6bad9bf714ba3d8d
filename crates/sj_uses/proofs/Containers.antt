-- What is left where something is taken out of a container, or nothing is there.
use Rattle.std.proofs.Common.{◌≡◌, ◌<◌, ℕ, zero, suc, true, List, arith, Some, None, option_map, refl, sym, ap, ◌∙◌, nat_lt}
use Rattle.std.specs.Bool.{if◌then◌else◌}
use Rattle.std.proofs.lemmas.Bool.Decides.{nat_tests}
use Rattle.sj_text_core.specs.Tree.{Tree, null, boolean, int, text, list, obj, Items, no_items, item, items_len}
use Rattle.sj_text_core.specs.Find.{find, nth, nth_item}
use Rattle.sj_text_core.specs.Places.{position_of}
use Rattle.sj_text_core.proofs.Writes.{cut-absent}
use Rattle.sj_document.specs.Document.{without_member}
use Rattle.sj_document.specs.Items.{remove_at, without_item_at}
use Rattle.sj_uses.specs.Patch.{without_token, remove_placed}

found_within : (i : ℕ) (is : Items) (v : Tree) → nth_item i is ≡ Some v → i < items_len is
found_within i no_items v e = cc
found_within zero (item t is) v e = omega arith
found_within (suc i) (item t is) v e = let l = found_within i is v e in omega (arith, l)

pub item_taken : (k : List ℕ) (i : ℕ) (t v : Tree) → nth i t ≡ Some v → position_of k ≡ Some i → Some (without_item_at i t) ≡ without_token k t
item_taken k i null v e p = cc
item_taken k i (boolean b) v e p = cc
item_taken k i (int m c) v e p = cc
item_taken k i (text s) v e p = cc
item_taken k i (obj ms) v e p = cc
item_taken k i (list is) v e p =
    let l = found_within i is v e in
    let y : nat_lt i (items_len is) ≡ true = grind (arith, nat_tests) in
    sym ((λ j. option_map list (remove_placed (p j) is)) ∙ (λ j. option_map list (if y j then Some (remove_at i is) else None)))

remove_none : (i : ℕ) (is : Items) → nth_item i is ≡ None → remove_at i is ≡ is
remove_none i no_items e = refl
remove_none zero (item t is) e = cc
remove_none (suc i) (item t is) e = ap (item t) (remove_none i is e)

pub no_item_taken : (i : ℕ) (t : Tree) → nth i t ≡ None → without_item_at i t ≡ t
no_item_taken i null e = refl
no_item_taken i (boolean b) e = refl
no_item_taken i (int m c) e = refl
no_item_taken i (text s) e = refl
no_item_taken i (obj ms) e = refl
no_item_taken i (list is) e = ap list (remove_none i is e)

pub no_member_taken : (k : List ℕ) (t : Tree) → find k t ≡ None → without_member k t ≡ t
no_member_taken k null e = refl
no_member_taken k (boolean b) e = refl
no_member_taken k (int m c) e = refl
no_member_taken k (text s) e = refl
no_member_taken k (list is) e = refl
no_member_taken k (obj ms) e = ap obj (cut-absent k ms e)
