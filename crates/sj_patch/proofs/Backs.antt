-- Members and items that go back to their places.
use Rattle.std.proofs.Common.{◌≡◌, ◌<◌, ◌≤◌, ◌&&◌, ℕ, zero, suc, Bool, true, false, List, [], ◌∷◌, length, Some, None, Ok, Err, refl, sym, ap, ◌∙◌, arith, bytes_eq, option_map}
use Rattle.std.specs.List.{insert}
use Rattle.std.proofs.lemmas.Bool.Decides.{nat_tests}
use Rattle.std.proofs.lemmas.Bool.{or_parts, or_from}
use Rattle.sj_text_core.specs.Tree.{Tree, Items, no_items, item, items_len, member}
use Rattle.sj_text_core.specs.Find.{find_member, nth_item}
use Rattle.sj_text_core.specs.Keep.{is_seen}
use Rattle.sj_object.specs.Texts.{no_repeats}
use Rattle.sj_object.specs.inner.Texts.{not_and}
use Rattle.sj_object.specs.Entries.{Entry, entry_texts}
use Rattle.sj_object.proofs.Position.{none_where_unseen}
use Rattle.sj_object.proofs.Shown.{lookup-entry_members}
use Rattle.sj_object.specs.Members.{entry_members}
use Rattle.sj_document.specs.Items.{insert_at, remove_at}
use Rattle.sj_patch.specs.inner.Changed.{insert_member, where_so, is_placed}
use Rattle.sj_text_core.specs.declared.patch_fault.OperationFault.TheVariants.{Missing}
use Rattle.sj_text_core.proofs.Texts.{bytes_eq-sym}

pub placed : (len n i : ℕ) → len < n → i ≤ len → is_placed len n i ≡ true
placed len n i l h = grind (arith, nat_tests)

pub placed-within : (len n i : ℕ) → is_placed len n i ≡ true → i ≤ len
placed-within len n i e = grind (arith, nat_tests)

pub placed-below : (len n i : ℕ) → is_placed len n i ≡ true → len < n
placed-below len n i e = grind (arith, nat_tests)

pub not_so : (b : Bool) (t : Tree) → b ≡ false → where_so b t ≡ Err Missing
not_so b t e = ap (λ b. where_so b t) e

pub so : (b : Bool) (t : Tree) → b ≡ true → where_so b t ≡ Ok t
so b t e = ap (λ b. where_so b t) e

-- the member that an insert among entries makes
pub members-insert : {K V : Type 0} (f : V → Tree) (es : List (Entry K V)) (i : ℕ) (e : Entry K V) → i ≤ length es → entry_members f (insert es i e) ≡ insert_member i e.0.1 (f e.1) (entry_members f es)
members-insert f [] zero e h = refl
members-insert f [] (suc i) e h = absurd (omega (arith, h))
members-insert f (x ∷ es) zero e h = refl
members-insert f (x ∷ es) (suc i) e h = ap (member x.0.1 (f x.1)) (members-insert f es i e (omega (arith, h)))

-- an item that was taken out, put back
pub insert-remove : (i : ℕ) (u : Tree) (is : Items) → nth_item i is ≡ Some u → insert_at i u (remove_at i is) ≡ is
insert-remove i u no_items f = cc
insert-remove zero u (item t no_items) f = cc
insert-remove zero u (item t (item v is)) f = cc
insert-remove (suc i) u (item t is) f = ap (item t) (insert-remove i u is f)

pub remove-len : (i : ℕ) (u : Tree) (is : Items) → nth_item i is ≡ Some u → suc (items_len (remove_at i is)) ≡ items_len is
remove-len i u no_items f = cc
remove-len zero u (item t is) f = refl
remove-len (suc i) u (item t is) f = ap suc (remove-len i u is f)

pub found-within : (i : ℕ) (u : Tree) (is : Items) → nth_item i is ≡ Some u → i < items_len is
found-within i u no_items f = cc
found-within zero u (item t is) f = omega arith
found-within (suc i) u (item t is) f = omega (arith, found-within i u is f)

pub and_false : (b : Bool) → b && false ≡ false
and_false true = refl
and_false false = refl

unseen-insert : (k x : List ℕ) (ts : List (List ℕ)) (i : ℕ) → is_seen x (insert ts i k) ≡ false → (is_seen x ts ≡ false) × (bytes_eq x k ≡ false)
unseen-insert k x [] zero h = (refl, (or_parts (bytes_eq x k) false h).0)
unseen-insert k x [] (suc i) h = (refl, (or_parts (bytes_eq x k) false h).0)
unseen-insert k x (t ∷ ts) zero h = let r = or_parts (bytes_eq x k) _ h in (r.1, r.0)
unseen-insert k x (t ∷ ts) (suc i) h =
    let r = or_parts (bytes_eq x t) _ h in
    let s = unseen-insert k x ts i r.1 in
    (or_from _ _ r.0 s.0, s.1)

-- where no text stands twice, one that was put was not there
new-insert : (k : List ℕ) (ts : List (List ℕ)) (i : ℕ) → no_repeats (insert ts i k) ≡ true → is_seen k ts ≡ false
new-insert k [] i d = refl
new-insert k (t ∷ ts) zero d = (not_and (is_seen k (t ∷ ts)) _ d).0
new-insert k (t ∷ ts) (suc i) d =
    let n = not_and (is_seen t (insert ts i k)) _ d in
    or_from _ _ (bytes_eq-sym t k (unseen-insert k t ts i n.0).1) (new-insert k ts i n.1)

module _ {K V : Type 0} where
  texts-inserted : (es : List (Entry K V)) (i : ℕ) (e : Entry K V) → entry_texts (insert es i e) ≡ insert (entry_texts es) i e.0.1
  texts-inserted [] zero e = refl
  texts-inserted [] (suc i) e = refl
  texts-inserted (x ∷ es) zero e = refl
  texts-inserted (x ∷ es) (suc i) e = ap (λ ts. x.0.1 ∷ ts) (texts-inserted es i e)

  pub entries-longer : (es : List (Entry K V)) (i : ℕ) (e : Entry K V) → length (insert es i e) ≡ suc (length es)
  entries-longer [] zero e = refl
  entries-longer [] (suc i) e = refl
  entries-longer (x ∷ es) zero e = refl
  entries-longer (x ∷ es) (suc i) e = ap suc (entries-longer es i e)

  -- a member that was taken out is not among the others
  pub gone : (f : V → Tree) (es fs : List (Entry K V)) (i : ℕ) (e : Entry K V) → insert fs i e ≡ es → no_repeats (entry_texts es) ≡ true → find_member e.0.1 (entry_members f fs) ≡ None
  gone f es fs i e b d =
      sym (lookup-entry_members f e.0.1 fs)
      ∙ ap (option_map f) (none_where_unseen e.0.1 fs (new-insert e.0.1 (entry_texts fs) i (ap no_repeats (sym (texts-inserted fs i e) ∙ ap entry_texts b) ∙ d)))
