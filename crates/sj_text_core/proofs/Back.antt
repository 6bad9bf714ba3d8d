-- What is read of a print.
use Rattle.std.proofs.Common.{◌≡◌, ◌⊎◌, ◌≤◌, ℕ, Bool, true, false, List, if◌then◌else◌, bytes_eq, refl, sym, ap, ap₂, ◌∙◌, subst}
use Rattle.sj_text_core.specs.Tree.{IsProper, IsWithin, depth, Tree, null, boolean, int, text, list, obj, Items, no_items, item, Members, no_members, member}
use Rattle.sj_text_core.specs.Edits.{put}
use Rattle.sj_text_core.specs.Grammar.{Spells, IsReadable}
use Rattle.sj_text_core.specs.Keep.{keep}
use Rattle.sj_text_core.specs.Print.{compact, pretty, recarry, recarry_items, recarry_members}
use Rattle.sj_text_core.specs.Repeats.{keep_by, keep_last, keep_last_items, keep_last_values, put_all, by_first, SameBy}
use Rattle.sj_text_core.specs.Same.{Same}
use Rattle.sj_text_core.specs.declared.repeats.Repeats.{Repeats}
use Rattle.sj_text_core.specs.declared.repeats.Repeats.TheVariants.{First, Last}
use Rattle.sj_text_core.proofs.Equality.{same-trans}
use Rattle.sj_text_core.proofs.Finds.{same-keep, same-recarry, depth-recarry, within-recarry}
use Rattle.sj_text_core.proofs.Printed.{spelled_by}
use Rattle.sj_text_core.proofs.parse.One.{one_tree}

put-recarry : (k : List ℕ) (t : Tree) (ms : Members) → recarry_members (put k t ms) ≡ put k (recarry t) (recarry_members ms)
put-recarry k t no_members = refl
put-recarry k t (member l u ms) = by_test (bytes_eq k l) (put-recarry k t ms)
  where
    by_test : (b : Bool) → recarry_members (put k t ms) ≡ put k (recarry t) (recarry_members ms)
        → recarry_members (if b then member l t ms else member l u (put k t ms)) ≡ (if b then member l (recarry t) (recarry_members ms) else member l (recarry u) (put k (recarry t) (recarry_members ms)))
    by_test true e = refl
    by_test false e = ap (member l (recarry u)) e

put_all-recarry : (done ms : Members) → recarry_members (put_all done ms) ≡ put_all (recarry_members done) (recarry_members ms)
put_all-recarry done no_members = refl
put_all-recarry done (member k t ms) = put_all-recarry (put k t done) ms ∙ ap (λ d. put_all d (recarry_members ms)) (put-recarry k t done)

mutual
  keep_last-recarry : (t : Tree) → keep_last (recarry t) ≡ recarry (keep_last t)
  keep_last-recarry null = refl
  keep_last-recarry (boolean b) = refl
  keep_last-recarry (int n c) = refl
  keep_last-recarry (text s) = refl
  keep_last-recarry (list is) = ap list (keep_last_items-recarry is)
  keep_last-recarry (obj ms) = ap obj (ap (put_all no_members) (keep_last_values-recarry ms) ∙ sym (put_all-recarry no_members (keep_last_values ms)))

  keep_last_items-recarry : (is : Items) → keep_last_items (recarry_items is) ≡ recarry_items (keep_last_items is)
  keep_last_items-recarry no_items = refl
  keep_last_items-recarry (item t is) = ap₂ item (keep_last-recarry t) (keep_last_items-recarry is)

  keep_last_values-recarry : (ms : Members) → keep_last_values (recarry_members ms) ≡ recarry_members (keep_last_values ms)
  keep_last_values-recarry no_members = refl
  keep_last_values-recarry (member k t ms) = ap₂ (member k) (keep_last-recarry t) (keep_last_values-recarry ms)

by_first-recarry : (c : Repeats) (t : Tree) → by_first c (recarry t) ≡ recarry (by_first c t)
by_first-recarry First t = refl
by_first-recarry Last t = keep_last-recarry t

-- the carriers of prints change no meaning by either choice
same_by-recarry : (c : Repeats) (t : Tree) → SameBy c c t (recarry t)
same_by-recarry c t = subst (Same (by_first c t)) (sym (by_first-recarry c t)) (same-recarry (by_first c t))

-- nor does keeping then
same_by-kept : (c : Repeats) (t : Tree) → SameBy c First t (keep_by c (recarry t))
same_by-kept First t = same-trans t (recarry t) (keep (recarry t)) (same-recarry t) (same-keep (recarry t))
same_by-kept Last t = same_by-recarry Last t

-- what is printed reads back as a tree that is the same
pub reads-back : (c : Repeats) (t : Tree) (b : List ℕ) → IsProper t → IsWithin t → (b ≡ compact t) ⊎ (b ≡ pretty 0 t)
    → Spells b (recarry t) × IsWithin (recarry t) × SameBy c c t (recarry t) × SameBy c First t (keep_by c (recarry t))
reads-back c t b h w e = (spelled_by t b h e, within-recarry t w, same_by-recarry c t, same_by-kept c t)

module _ (t : Tree) (b : List ℕ) (s : Spells b (recarry t)) where
  -- what is read is the tree with the carriers of the print, so it is the same, each by one choice
  pub same_by_back : (c : Repeats) (u : Tree) → Spells b u → SameBy c c t u
  same_by_back c u r = subst (SameBy c c t) (one_tree b (recarry t) u s r) (same_by-recarry c t)

  -- and so it is, kept by that choice
  pub same_kept_back : (c : Repeats) (u : Tree) → Spells b u → SameBy c First t (keep_by c u)
  same_kept_back c u r = subst (λ v. SameBy c First t (keep_by c v)) (one_tree b (recarry t) u s r) (same_by-kept c t)

  -- only a tree within the limit is read back
  pub within_back : (u : Tree) → Spells b u → IsWithin u → IsWithin t
  within_back u r w = subst (λ d. d ≤ 1024) (ap depth (one_tree b u (recarry t) r s) ∙ depth-recarry t) w

  -- and each is
  pub readable_back : IsWithin t → IsReadable b
  readable_back w = (recarry t, s, within-recarry t w)
