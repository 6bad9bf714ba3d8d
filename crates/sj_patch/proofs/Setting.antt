-- What was put, taken out again.
use Rattle.std.proofs.Common.{◌≡◌, ℕ, zero, suc, ◌≤◌, Bool, true, false, List, Some, None, if◌then◌else◌, bytes_eq, refl, ap, ◌∙◌, arith}
use Rattle.std.proofs.lemmas.Slice.Eq.{bytes_eq-Decides}
use Rattle.sj_text_core.specs.Tree.{Tree, Items, no_items, item, Members, no_members, member, items_len}
use Rattle.sj_text_core.specs.Find.{find_member, nth_item}
use Rattle.sj_text_core.specs.Edits.{put, cut}
use Rattle.sj_document.specs.Items.{insert_at, remove_at}

cut_put_by : (b : Bool) (k : List ℕ) (w t : Tree) (l : List ℕ) (ms : Members) → bytes_eq k l ≡ b → (if b then Some t else find_member k ms) ≡ None → (find_member k ms ≡ None → cut k (put k w ms) ≡ ms)
    → cut k (if b then member l w ms else member l t (put k w ms)) ≡ member l t ms
cut_put_by true k w t l ms e f ih = cc
cut_put_by false k w t l ms e f ih = ap (λ b. if b then put k w ms else member l t (cut k (put k w ms))) e ∙ ap (member l t) (ih f)

-- a new member taken out again
pub cut-put : (k : List ℕ) (w : Tree) (ms : Members) → find_member k ms ≡ None → cut k (put k w ms) ≡ ms
cut-put k w no_members f = ap (λ b. if b then no_members else member k w no_members) ((bytes_eq-Decides k k).1 refl)
cut-put k w (member l t ms) f = cut_put_by (bytes_eq k l) k w t l ms refl f (cut-put k w ms)

-- a new item taken out again
pub drop-insert : (i : ℕ) (v : Tree) (is : Items) → i ≤ items_len is → remove_at i (insert_at i v is) ≡ is
drop-insert zero v no_items h = refl
drop-insert (suc i) v no_items h = absurd (omega (arith, h))
drop-insert zero v (item t is) h = refl
drop-insert (suc i) v (item t is) h = ap (item t) (drop-insert i v is (omega (arith, h)))

pub nth-insert : (i : ℕ) (v : Tree) (is : Items) → i ≤ items_len is → nth_item i (insert_at i v is) ≡ Some v
nth-insert zero v no_items h = refl
nth-insert (suc i) v no_items h = absurd (omega (arith, h))
nth-insert zero v (item t is) h = refl
nth-insert (suc i) v (item t is) h = nth-insert i v is (omega (arith, h))
