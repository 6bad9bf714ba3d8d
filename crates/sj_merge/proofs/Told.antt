-- The members of a merge patch, one after another: which texts they have, and what they hold.
use Rattle.std.proofs.Common.{◌≡◌, ℕ, Bool, true, false, List, Option, Some, None, is_some, option_map, option_and_then, if◌then◌else◌, bytes_eq, refl, sym, ap, ◌∙◌, subst, true≢false}
use Rattle.std.proofs.lemmas.Slice.Eq.{bytes_eq-Decides}
use Rattle.sj_text_core.specs.Tree.{Tree, null, boolean, int, text, list, obj, Members, no_members, member}
use Rattle.sj_text_core.specs.Find.{find_member}
use Rattle.sj_text_core.specs.Equal.{passes, tree_eq}
use Rattle.sj_text_core.proofs.Texts.{absent_parts}
use Rattle.sj_merge.specs.Merge.{is_null, target_members}
use Rattle.sj_merge.specs.MergeDiff.{removals, merge_patch, patch_members}
use Rattle.sj_merge.proofs.MergedFinds.{AreApart}

-- whether what was found is the same as what is wanted
abbrev pub is_same : Option Tree → Tree → Bool
is_same old w = passes old (λ u. tree_eq u w)

-- what the patch tells of the wanted's first member: nothing, or a member
pub data Told (ms : Members) (l : List ℕ) (w : Tree) (ns ps : Members) : Type 0 where
  stays : is_same (find_member l ms) w ≡ true → patch_members ms ns ≡ Some ps → Told ms l w ns ps
  changes : (p : Tree) (qs : Members) → is_same (find_member l ms) w ≡ false → is_null w ≡ false → merge_patch (find_member l ms) w ≡ Some p → patch_members ms ns ≡ Some qs → ps ≡ member l p qs → Told ms l w ns ps

module _ (ms : Members) (l : List ℕ) (w : Tree) (ns ps : Members) where
  both_by : (o : Option Tree) (r : Option Members) → is_same (find_member l ms) w ≡ false → is_null w ≡ false → merge_patch (find_member l ms) w ≡ o → patch_members ms ns ≡ r
      → option_and_then (λ p. option_map (member l p) r) o ≡ Some ps → Told ms l w ns ps
  both_by None r x y f g e = cc
  both_by (Some p) None x y f g e = cc
  both_by (Some p) (Some qs) x y f g e = let q : ps ≡ member l p qs = cc in changes p qs x y f g q

  told_by : (x y : Bool) → is_same (find_member l ms) w ≡ x → is_null w ≡ y
      → (if x then patch_members ms ns else if y then None else option_and_then (λ p. option_map (member l p) (patch_members ms ns)) (merge_patch (find_member l ms) w)) ≡ Some ps → Told ms l w ns ps
  told_by true y d e h = stays d h
  told_by false true d e h = cc
  told_by false false d e h = both_by (merge_patch (find_member l ms) w) (patch_members ms ns) d e refl refl h

  pub told : patch_members ms (member l w ns) ≡ Some ps → Told ms l w ns ps
  told h = told_by (is_same (find_member l ms) w) (is_null w) refl refl h

ahead_by : (b : Bool) (t p : Tree) (r s : Option Tree) → (if b then Some t else r) ≡ None → (r ≡ None → s ≡ None) → (if b then Some p else s) ≡ None
ahead_by true t p r s e h = cc
ahead_by false t p r s e h = h e

absent_told : (k : List ℕ) (ms : Members) (l : List ℕ) (w : Tree) (ns ps : Members) → ((qs : Members) → patch_members ms ns ≡ Some qs → find_member k ns ≡ None → find_member k qs ≡ None)
    → Told ms l w ns ps → (if bytes_eq k l then Some w else find_member k ns) ≡ None → find_member k ps ≡ None
absent_told k ms l w ns ps ih (stays d h) n = ih ps h (absent_parts (bytes_eq k l) w (find_member k ns) n).1
absent_told k ms l w ns ps ih (changes p qs d y f h q) n = ap (find_member k) q ∙ ahead_by (bytes_eq k l) w p (find_member k ns) (find_member k qs) n (ih qs h)

-- a text that the wanted has not is told of by none of its members
pub told-absent : (k : List ℕ) (ms ns ps : Members) → patch_members ms ns ≡ Some ps → find_member k ns ≡ None → find_member k ps ≡ None
told-absent k ms no_members ps e n = let q : ps ≡ no_members = cc in ap (find_member k) q
told-absent k ms (member l w ns) ps e n = absent_told k ms l w ns ps (λ qs h m. told-absent k ms ns qs h m) (told ms l w ns ps e) n

apart_told : (ms : Members) (l : List ℕ) (w : Tree) (ns ps : Members) → find_member l ns ≡ None → ((qs : Members) → patch_members ms ns ≡ Some qs → AreApart qs) → Told ms l w ns ps → AreApart ps
apart_told ms l w ns ps a ih (stays d h) = ih ps h
apart_told ms l w ns ps a ih (changes p qs d y f h q) = subst AreApart (sym q) (told-absent l ms ns qs h a, ih qs h)

-- no two of them have one text
pub told-apart : (ms ns ps : Members) → AreApart ns → patch_members ms ns ≡ Some ps → AreApart ps
told-apart ms no_members ps a e = let q : no_members ≡ ps = cc in subst AreApart q tt
told-apart ms (member l w ns) ps a e = apart_told ms l w ns ps a.0 (λ qs h. told-apart ms ns qs a.1 h) (told ms l w ns ps e)

-- what a text finds in the patch: by what the target has there, what is wanted, and what is told
abbrev pub found_told : Option Tree → Option Tree → Option Tree → Option Tree
found_told None None told = told
found_told (Some t) None told = Some null
found_told old (Some w) told = told

removed_by : (y b : Bool) (t : Tree) (old wanted told : Option Tree) (r : Option Tree) → (b ≡ true → is_some wanted ≡ y) → r ≡ found_told old wanted told
    → (if y then r else if b then Some null else r) ≡ found_told (if b then Some t else old) wanted told
removed_by true true t old None told r h e = absurd (true≢false (sym (h refl)))
removed_by true true t None (Some w) told r h e = e
removed_by true true t (Some u) (Some w) told r h e = e
removed_by true false t old wanted told r h e = e
removed_by false true t old None told r h e = refl
removed_by false true t old (Some w) told r h e = absurd (true≢false (h refl))
removed_by false false t old wanted told r h e = e

if_found : (y : Bool) (k l : List ℕ) (r s : Members) → find_member k (if y then r else member l null s) ≡ (if y then find_member k r else if bytes_eq k l then Some null else find_member k s)
if_found true k l r s = refl
if_found false k l r s = refl

pub find-removals : (k : List ℕ) (ms ns ps : Members) → find_member k (removals ms ns ps) ≡ found_told (find_member k ms) (find_member k ns) (find_member k ps)
find-removals k no_members ns ps = none_by (find_member k ns) (find_member k ps) where
  none_by : (wanted told : Option Tree) → told ≡ found_told None wanted told
  none_by None told = refl
  none_by (Some w) told = refl
find-removals k (member l t ms) ns ps =
    if_found (is_some (find_member l ns)) k l (removals ms ns ps) (removals ms ns ps)
    ∙ removed_by (is_some (find_member l ns)) (bytes_eq k l) t (find_member k ms) (find_member k ns) (find_member k ps) (find_member k (removals ms ns ps))
    (λ b. ap (λ x. is_some (find_member x ns)) ((bytes_eq-Decides k l).0 b)) (find-removals k ms ns ps)

gone_by : (y : Bool) (l : List ℕ) (ms ns ps rest : Members) → is_some (find_member l ns) ≡ y → find_member l ms ≡ None → (find_member l ns ≡ None → find_member l ps ≡ None) → find_member l rest ≡ found_told (find_member l ms) (find_member l ns) (find_member l ps) → AreApart rest
    → AreApart (if y then rest else member l null rest)
gone_by true l ms ns ps rest e a n f h = h
gone_by false l ms ns ps rest e a n f h = (f ∙ nothing (find_member l ms) (find_member l ns) (find_member l ps) a (no_some (find_member l ns) e) (n (no_some (find_member l ns) e)), h) where
  no_some : (o : Option Tree) → is_some o ≡ false → o ≡ None
  no_some None e = refl
  no_some (Some t) e = absurd (true≢false e)

  nothing : (old wanted told : Option Tree) → old ≡ None → wanted ≡ None → told ≡ None → found_told old wanted told ≡ None
  nothing None None told a b c = c
  nothing None (Some w) told a b c = c
  nothing (Some t) wanted told a b c = cc

-- nor have they the text of a member that goes
pub removals-apart : (ms ns ps : Members) → AreApart ms → AreApart ps → ((k : List ℕ) → find_member k ns ≡ None → find_member k ps ≡ None) → AreApart (removals ms ns ps)
removals-apart no_members ns ps a b n = b
removals-apart (member l t ms) ns ps a b n = gone_by (is_some (find_member l ns)) l ms ns ps (removals ms ns ps) refl a.0 (n l) (find-removals l ms ns ps) (removals-apart ms ns ps a.1 b n)

-- what is told of a value that is no null is no null
no_null_by : (f : Members → Members) (x : Option Members) (p : Tree) → option_map (λ ps. obj (f ps)) x ≡ Some p → is_null p ≡ false
no_null_by f None p e = cc
no_null_by f (Some ps) p e = let q : p ≡ obj (f ps) = cc in ap is_null q

pub told-no_null : (old : Option Tree) (w p : Tree) → is_null w ≡ false → merge_patch old w ≡ Some p → is_null p ≡ false
told-no_null old null p n e = absurd (true≢false n)
told-no_null old (boolean b) p n e = let q : p ≡ boolean b = cc in ap is_null q
told-no_null old (int m c) p n e = let q : p ≡ int m c = cc in ap is_null q
told-no_null old (text s) p n e = let q : p ≡ text s = cc in ap is_null q
told-no_null old (list is) p n e = let q : p ≡ list is = cc in ap is_null q
told-no_null old (obj ns) p n e = no_null_by (λ ps. removals (target_members old) ns ps) (patch_members (target_members old) ns) p e
