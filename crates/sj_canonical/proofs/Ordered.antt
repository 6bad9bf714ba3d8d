-- The canonical form is in order, and what is in order stays.
use Rattle.std.proofs.Common.{◌≡◌, ℕ, Bool, true, false, List, refl, ap, ap₂, ◌∙◌, true≢false}
use Rattle.std.specs.Prelude.{if◌then◌else◌}
use Rattle.sj_text_core.specs.Tree.{Tree, null, boolean, int, text, list, obj, Items, no_items, item, Members, no_members, member}
use Rattle.sj_canonical.specs.Canonical.{is_before, sort_in, canonical, canonical_items, canonical_members, NoneBefore, IsOrdered, AreOrdered, HasOrder}
use Rattle.sj_canonical.proofs.Texts.{order}

pub none_before-less : (k l : List ℕ) (ms : Members) → is_before l k ≡ false → NoneBefore l ms → NoneBefore k ms
none_before-less k l no_members e h = tt {0}
none_before-less k l (member m t ms) e h = (order.chain m l k h.0 e, none_before-less k l ms e h.1)

pub none_before-sort_in : (k l : List ℕ) (t : Tree) (ms : Members) → is_before l k ≡ false → NoneBefore k ms → NoneBefore k (sort_in l t ms)
none_before-sort_in k l t no_members e h = (e, tt {0})
none_before-sort_in k l t (member m u ms) e h = by_test (is_before m l) (none_before-sort_in k l t ms e h.1)
  where
    by_test : (b : Bool) → NoneBefore k (sort_in l t ms) → NoneBefore k (if b then member m u (sort_in l t ms) else member l t (member m u ms))
    by_test true r = (h.0, r)
    by_test false r = (e, h)

ordered-sort_in : (k : List ℕ) (t : Tree) (ms : Members) → IsOrdered t → HasOrder ms → HasOrder (sort_in k t ms)
ordered-sort_in k t no_members o h = (tt {0}, o, tt {0})
ordered-sort_in k t (member l u ms) o h = by_test (is_before l k) refl (ordered-sort_in k t ms o h.2)
  where
    by_test : (b : Bool) → is_before l k ≡ b → HasOrder (sort_in k t ms) → HasOrder (if b then member l u (sort_in k t ms) else member k t (member l u ms))
    by_test true e r = (none_before-sort_in l k t ms (order.one_way l k e) h.0, h.1, r)
    by_test false e r = ((e, none_before-less k l ms e h.0), o, h)

mutual
  pub ordered-canonical : (t : Tree) → IsOrdered (canonical t)
  ordered-canonical null = tt {0}
  ordered-canonical (boolean b) = tt {0}
  ordered-canonical (int n c) = tt {0}
  ordered-canonical (text s) = tt {0}
  ordered-canonical (list is) = ordered_items-canonical is
  ordered-canonical (obj ms) = ordered_members-canonical ms

  ordered_items-canonical : (is : Items) → AreOrdered (canonical_items is)
  ordered_items-canonical no_items = tt {0}
  ordered_items-canonical (item t is) = (ordered-canonical t, ordered_items-canonical is)

  ordered_members-canonical : (ms : Members) → HasOrder (canonical_members ms)
  ordered_members-canonical no_members = tt {0}
  ordered_members-canonical (member k t ms) = ordered-sort_in k (canonical t) (canonical_members ms) (ordered-canonical t) (ordered_members-canonical ms)

first_stays : (k : List ℕ) (t : Tree) (ms : Members) → NoneBefore k ms → sort_in k t ms ≡ member k t ms
first_stays k t no_members h = refl
first_stays k t (member l u ms) h = by_test (is_before l k) h.0
  where
    by_test : (b : Bool) → b ≡ false → (if b then member l u (sort_in k t ms) else member k t (member l u ms)) ≡ member k t (member l u ms)
    by_test true e = absurd (true≢false e)
    by_test false e = refl

mutual
  pub ordered-stays : (t : Tree) → IsOrdered t → canonical t ≡ t
  ordered-stays null o = refl
  ordered-stays (boolean b) o = refl
  ordered-stays (int n c) o = refl
  ordered-stays (text s) o = refl
  ordered-stays (list is) o = ap list (ordered_items-stay is o)
  ordered-stays (obj ms) o = ap obj (ordered_members-stay ms o)

  ordered_items-stay : (is : Items) → AreOrdered is → canonical_items is ≡ is
  ordered_items-stay no_items o = refl
  ordered_items-stay (item t is) o = ap₂ item (ordered-stays t o.0) (ordered_items-stay is o.1)

  ordered_members-stay : (ms : Members) → HasOrder ms → canonical_members ms ≡ ms
  ordered_members-stay no_members o = refl
  ordered_members-stay (member k t ms) o = ap₂ (sort_in k) (ordered-stays t o.1) (ordered_members-stay ms o.2) ∙ first_stays k t ms o.0
