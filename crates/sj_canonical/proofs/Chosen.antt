-- Trees whose objects repeat texts, where the first or the last member of each counts.
use Rattle.std.proofs.Common.{◌≡◌, ◌↔◌, ℕ, Bool, true, false, List, [], ◌∷◌, bytes_eq, IsUtf8}
use Rattle.std.specs.Prelude.{if◌then◌else◌}
use Rattle.sj_text_core.proofs.Equality.{same-sym, same-trans}
use Rattle.sj_text_core.proofs.Finds.{same-keep}
use Rattle.sj_text_core.proofs.Single.{single-keep_by}
use Rattle.sj_text_core.specs.Edits.{put}
use Rattle.sj_text_core.specs.Keep.{is_seen, keep, keep_items, keep_members}
use Rattle.sj_text_core.specs.Print.{compact}
use Rattle.sj_text_core.specs.Repeats.{keep_by, keep_last, keep_last_items, keep_last_values, put_all, by_first, SameBy}
use Rattle.sj_text_core.specs.Same.{Same}
use Rattle.sj_text_core.specs.Tree.{Tree, null, boolean, int, text, list, obj, Items, no_items, item, Members, no_members, member, IsProper, AreProper, HasProper}
use Rattle.sj_text_core.specs.declared.repeats.Repeats.{Repeats}
use Rattle.sj_text_core.specs.declared.repeats.Repeats.TheVariants.{First, Last}
use Rattle.sj_text_core.proofs.Equality.{same-refl}
use Rattle.sj_canonical.proofs.Alike.{same_print, print_same}
use Rattle.sj_canonical.specs.Canonical.{canonical_by}

proper_by : (b : Bool) (k : List ℕ) (t : Tree) (ms ns : Members) → IsUtf8 k → IsProper t → HasProper ms → HasProper ns → HasProper (if b then ms else member k t ns)
proper_by true k t ms ns u p h i = h
proper_by false k t ms ns u p h i = (u, p, i)

mutual
  proper-keep : (t : Tree) → IsProper t → IsProper (keep t)
  proper-keep null p = tt {0}
  proper-keep (boolean b) p = tt {0}
  proper-keep (int n c) p = p
  proper-keep (text s) p = p
  proper-keep (list is) p = proper-keep_items is p
  proper-keep (obj ms) p = proper-keep_members [] ms p

  proper-keep_items : (is : Items) → AreProper is → AreProper (keep_items is)
  proper-keep_items no_items p = tt {0}
  proper-keep_items (item t is) p = (proper-keep t p.0, proper-keep_items is p.1)

  proper-keep_members : (seen : List (List ℕ)) (ms : Members) → HasProper ms → HasProper (keep_members seen ms)
  proper-keep_members seen no_members p = tt {0}
  proper-keep_members seen (member k t ms) p =
      proper_by (is_seen k seen) k (keep t) (keep_members seen ms) (keep_members (k ∷ seen) ms) p.0 (proper-keep t p.1) (proper-keep_members seen ms p.2) (proper-keep_members (k ∷ seen) ms p.2)

proper-put : (k : List ℕ) (t : Tree) (ms : Members) → IsUtf8 k → IsProper t → HasProper ms → HasProper (put k t ms)
proper-put k t no_members u p h = (u, p, tt {0})
proper-put k t (member l v ms) u p h = by_test (bytes_eq k l) (proper-put k t ms u p h.2)
  where
    by_test : (b : Bool) → HasProper (put k t ms) → HasProper (if b then member l t ms else member l v (put k t ms))
    by_test true r = (h.0, p, h.2)
    by_test false r = (h.0, h.1, r)

proper-put_all : (done ms : Members) → HasProper done → HasProper ms → HasProper (put_all done ms)
proper-put_all done no_members h p = h
proper-put_all done (member k t ms) h p = proper-put_all (put k t done) ms (proper-put k t done p.0 p.1 h) p.2

mutual
  proper-keep_last : (t : Tree) → IsProper t → IsProper (keep_last t)
  proper-keep_last null p = tt {0}
  proper-keep_last (boolean b) p = tt {0}
  proper-keep_last (int n c) p = p
  proper-keep_last (text s) p = p
  proper-keep_last (list is) p = proper-keep_last_items is p
  proper-keep_last (obj ms) p = proper-put_all no_members (keep_last_values ms) (tt {0}) (proper-keep_last_values ms p)

  proper-keep_last_items : (is : Items) → AreProper is → AreProper (keep_last_items is)
  proper-keep_last_items no_items p = tt {0}
  proper-keep_last_items (item t is) p = (proper-keep_last t p.0, proper-keep_last_items is p.1)

  proper-keep_last_values : (ms : Members) → HasProper ms → HasProper (keep_last_values ms)
  proper-keep_last_values no_members p = tt {0}
  proper-keep_last_values (member k t ms) p = (p.0, proper-keep_last t p.1, proper-keep_last_values ms p.2)

proper-keep_by : (c : Repeats) (t : Tree) → IsProper t → IsProper (keep_by c t)
proper-keep_by First t p = proper-keep t p
proper-keep_by Last t p = proper-keep_last t p

-- what counts is what is kept
same-kept : (c : Repeats) (t : Tree) → Same (by_first c t) (keep_by c t)
same-kept First t = same-keep t
same-kept Last t = same-refl (keep_last t)

pub same_by_print : (c d : Repeats) (t u : Tree) → IsProper t → IsProper u → SameBy c d t u ↔ (compact (canonical_by c t) ≡ compact (canonical_by d u))
same_by_print c d t u p q =
    let a = keep_by c t in
    let b = keep_by d u in (
      λ h. same_print a b (proper-keep_by c t p) (proper-keep_by d u q) (single-keep_by c t) (single-keep_by d u)
          (same-trans a (by_first c t) b (same-sym (by_first c t) a (same-kept c t)) (same-trans (by_first c t) (by_first d u) b h (same-kept d u))),
      λ e. same-trans (by_first c t) a (by_first d u) (same-kept c t) (same-trans a b (by_first d u) (print_same a b (proper-keep_by c t p) (proper-keep_by d u q) e) (same-sym (by_first d u) b (same-kept d u))),
    )
